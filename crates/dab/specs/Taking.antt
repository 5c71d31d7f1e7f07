-- What taking a frame does on DAB: two prefix bytes, 1 to 16 data bytes, two check bytes.
use Rattle.std.specs.Prelude.{ℕ, zero, suc, ◌+◌, ◌-◌, ◌*◌, ◌/◌, ◌%◌, Bool, cond, not, ◌&&◌, List, [], ◌∷◌, length, take, drop, Some, Ok, Err, Result, ◌==◌, slice_index}
use Rattle.label.specs.declared.refusal.Refusal.{Refusal}
use Rattle.label.specs.declared.refusal.Refusal.TheVariants.{WrongSize, WrongCheck, WrongLength, OtherCharset, LaterSegmentZero, WrongCommand}
use Rattle.label.specs.Classes.{between}
use Rattle.label.specs.declared.tag.Tag.{Tag}
use Rattle.label.specs.declared.tag.ItemBits.{ItemBits}
use Rattle.crc.specs.Check.{check_of}
use Rattle.carrier.specs.Meaning.{Meaning, Outcome, answered, refused}
use Rattle.carrier.specs.declared.answer.Answer.TheVariants.{PassedOver}
use Rattle.taking.specs.Taking.{Tags, Taken, new_taken, on_text, on_tags}
use Rattle.taking.specs.Segments.{Held}
use Rattle.dab.specs.Frames.{dab_writing}
use Rattle.dab.specs.Text.{Flagged, dab_pieces}

-- what is held: the shared state, over segments
abbrev pub State : Type 0
State = Taken (Held Flagged)

-- the bits of a first prefix byte, from the highest on: toggle, first, last, command, then a field of four; a command's second one has a toggle too
abbrev pub toggle_bit : ℕ → Bool
toggle_bit b = b / 128 == 1

abbrev pub first_bit : ℕ → Bool
first_bit b = b / 64 % 2 == 1

abbrev pub last_bit : ℕ → Bool
last_bit b = b / 32 % 2 == 1

abbrev pub command_bit : ℕ → Bool
command_bit b = b / 16 % 2 == 1

abbrev pub low_four : ℕ → ℕ
low_four b = b % 16

abbrev pub high_four : ℕ → ℕ
high_four b = b / 16

-- a segment's number stands in a second prefix byte, behind its high bit
abbrev pub number_bits : ℕ → ℕ
number_bits b = b / 16 % 8

-- the number of a text segment, by its prefix bytes: the first one has the charset 0, and each later one a number from 1 to 7
abbrev pub segment_number : ℕ → ℕ → Result ℕ Refusal
segment_number one two =
    cond (first_bit one)
    (cond (high_four two == 0) (Ok 0) (Err OtherCharset))
    (cond (number_bits two == 0) (Err LaterSegmentZero) (Ok (number_bits two)))

-- a segment of the text, with the toggle and the last flag of the first prefix byte
abbrev pub on_segment : State → ℕ → List ℕ → Result ℕ Refusal → Outcome State
on_segment s one d (Ok number) = on_text dab_pieces s (toggle_bit one) (record { number = number; segment = record { body = d; last = last_bit one } })
on_segment s one d (Err e) = refused e

-- a text segment, by its prefix bytes and its data
abbrev pub take_text : State → ℕ → ℕ → List ℕ → Outcome State
take_text s one two d =
    cond (not (low_four one + 1 == length d)) (refused WrongLength)
    (on_segment s one d (segment_number one two))

-- a tag in three bytes, the high bit of each unread
abbrev pub tag_in : List ℕ → Tag
tag_in xs = record { class = slice_index xs 0 % 128; start = slice_index xs 1 % 128; extent = slice_index xs 2 % 128 }

-- so many tags, one after another
abbrev pub tags_in : ℕ → List ℕ → List Tag
tags_in zero xs = []
tags_in (suc k) xs = tag_in xs ∷ tags_in k (drop 3 xs)

-- the first data byte of a command, its head: the identifier in four bits, item toggle, item running, tags - 1
abbrev pub item_bits : ℕ → ItemBits
item_bits head = record { toggle = (head / 8 % 2 == 1); running = (head / 4 % 2 == 1) }

abbrev pub tag_count : ℕ → ℕ
tag_count head = head % 4 + 1

-- a command's tags are all in one frame, both first and last, and nothing else is
abbrev pub whole_command : ℕ → ℕ → ℕ → Bool
whole_command one head len = first_bit one && last_bit one && len == 1 + 3 * tag_count head

abbrev pub command_tags : List ℕ → Tags
command_tags d = record { item = item_bits (slice_index d 0); tags = tags_in (tag_count (slice_index d 0)) (drop 1 d) }

-- a command of DL Plus, by its prefix bytes and its data: the toggle is that of the second prefix byte; another identifier than 0 is passed over
abbrev pub take_command : State → ℕ → ℕ → List ℕ → Outcome State
take_command s one two d =
    cond (not (low_four two + 1 == length d)) (refused WrongLength)
    (cond (not (high_four (slice_index d 0) == 0)) (answered PassedOver s)
    (cond (not (whole_command one (slice_index d 0) (length d))) (refused WrongCommand)
    (on_tags dab_pieces s (Some (toggle_bit two)) (command_tags d))))

-- prefix bytes and data whose check holds: no command is a text segment, the command 2 is DL Plus, others are passed over
abbrev pub take_body : State → ℕ → ℕ → List ℕ → Outcome State
take_body s one two d =
    cond (not (command_bit one)) (take_text s one two d)
    (cond (low_four one == 2) (take_command s one two d) (answered PassedOver s))

-- a frame has 5 to 20 bytes
abbrev pub right_size : ℕ → Bool
right_size n = between 5 20 n

-- the bytes that are checked, the check that they come with, and the data
abbrev pub checked_part : List ℕ → List ℕ
checked_part f = take (length f - 2) f

abbrev pub check_part : List ℕ → ℕ
check_part f = slice_index f (length f - 2) * 256 + slice_index f (length f - 1)

abbrev pub data_part : List ℕ → List ℕ
data_part f = take (length f - 4) (drop 2 f)

-- a frame, over any check
unfoldable pub step_by : (List ℕ → ℕ) → State → List ℕ → Outcome State
step_by check s f =
    cond (not (right_size (length f))) (refused WrongSize)
    (cond (not (check (checked_part f) == check_part f)) (refused WrongCheck)
    (take_body s (slice_index f 0) (slice_index f 1) (data_part f)))

abbrev pub dab_step : State → List ℕ → Outcome State
dab_step = step_by check_of

abbrev pub dab : Meaning State
dab = record {
  writing = dab_writing;
  fresh = new_taken dab_pieces;
  step = dab_step;
  standing = λ s. s.standing;
  told = λ s. s.told;
}
