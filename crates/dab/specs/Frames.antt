-- The frames of a label on DAB: the Dynamic Label's text in segments, then one DL Plus command with the tags.
use Rattle.std.specs.Prelude.{ℕ, ◌+◌, ◌-◌, ◌*◌, ◌/◌, Bool, true, false, cond, ◌&&◌, List, [], ◌∷◌, ◌++◌, length, take, drop, ◌==◌, nat_le}
use Rattle.std.specs.List.{flat_map}
use Rattle.label.specs.declared.tag.Tag.{Tag}
use Rattle.label.specs.declared.tag.ItemBits.{ItemBits}
use Rattle.label.specs.Label.{Label}
use Rattle.crc.specs.Check.{check_of}
use Rattle.carrier.specs.Fields.{field, flag, word, octets}
use Rattle.carrier.specs.Writing.{Writing}

-- the text goes in segments of 16 bytes, the last holding the rest
abbrev pub segment : List ℕ → ℕ → List ℕ
segment x n = take 16 (drop (16 * n) x)

-- the number of the last segment, by the text's length
abbrev pub last_segment : ℕ → ℕ
last_segment len = (len - 1) / 16

abbrev pub segments : ℕ → ℕ
segments len = last_segment len + 1

-- toggle, first, last, no command, data bytes - 1
abbrev pub text_first : Bool → ℕ → ℕ → ℕ → ℕ
text_first t n last bytes = word (flag t ∷ flag (n == 0) ∷ flag (n == last) ∷ flag false ∷ field 4 (bytes - 1) ∷ [])

-- the charset 0 on segment 0, and behind a zero the number on the others; then four zeros
abbrev pub text_second : ℕ → ℕ
text_second n = cond (n == 0) (word (field 4 0 ∷ field 4 0 ∷ [])) (word (flag false ∷ field 3 n ∷ field 4 0 ∷ []))

-- prefix and data of the text's segment n
unfoldable pub text_body : List ℕ → Bool → ℕ → List ℕ
text_body x t n = text_first t n (last_segment (length x)) (length (segment x n)) ∷ text_second n ∷ segment x n

-- with no tags one all-zero tag is sent
abbrev pub sent_tags : List Tag → List Tag
sent_tags [] = record { class = 0; start = 0; extent = 0 } ∷ []
sent_tags (t ∷ ts) = t ∷ ts

-- a zero bit and seven bits for each of class, start and extent
abbrev pub tag_bytes : Tag → List ℕ
tag_bytes t = word (flag false ∷ field 7 t.class ∷ []) ∷ word (flag false ∷ field 7 t.start ∷ []) ∷ word (flag false ∷ field 7 t.extent ∷ []) ∷ []

-- the identifier 0, item toggle, item running, tags - 1
abbrev pub tags_first : ItemBits → ℕ → ℕ
tags_first item tags = word (field 4 0 ∷ flag item.toggle ∷ flag item.running ∷ field 2 (tags - 1) ∷ [])

-- and then the bytes of the tags, one after another
abbrev pub command_data : ItemBits → List Tag → List ℕ
command_data item tags = tags_first item (length tags) ∷ flat_map tag_bytes tags

-- toggle, first, last, command, the field 2 for DL Plus
abbrev pub command_first : Bool → ℕ
command_first t = word (flag t ∷ flag true ∷ flag true ∷ flag true ∷ field 4 2 ∷ [])

-- the toggle of the text that the tags are for, three zeros, data bytes - 1
abbrev pub command_second : Bool → ℕ → ℕ
command_second t bytes = word (flag t ∷ field 3 0 ∷ field 4 (bytes - 1) ∷ [])

-- prefix and data of the command
unfoldable pub command_body : ItemBits → List Tag → Bool → List ℕ
command_body item tags t = command_first t ∷ command_second t (length (command_data item tags)) ∷ command_data item tags

-- prefix and data with the check behind them, high byte first
abbrev pub framed : List ℕ → List ℕ
framed body = body ++ octets 2 (check_of body)

-- the segments in order, then the command
abbrev pub dab_body : Label → Bool → ℕ → List ℕ
dab_body l t n = cond (nat_le n (last_segment (length l.text))) (text_body l.text t n) (command_body l.item (sent_tags l.tags) t)

-- the service number has no place in a frame
abbrev pub dab_frame : Label → Bool → ℕ → ℕ → List ℕ
dab_frame l t service n = framed (dab_body l t n)

-- every label up to 128 bytes and four tags fits, and has a frame for each segment and one for the command
abbrev pub dab_writing : Writing
dab_writing = record {
  fits = λ o. nat_le o.len 128 && nat_le (length o.tags) 4;
  count = λ o. segments o.len + 1;
  frame = dab_frame;
}
