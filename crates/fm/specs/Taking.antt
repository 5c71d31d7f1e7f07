-- What taking a frame does on FM.
use Rattle.std.specs.Prelude.{ℕ, suc, ◌+◌, ◌*◌, ◌/◌, ◌%◌, Bool, false, cond, ◌&&◌, ◌||◌, List, [], ◌∷◌, length, drop, Some, None, Option, ◌==◌, nat_le, slice_index}
use Rattle.label.specs.declared.refusal.Refusal.TheVariants.{WrongSize, UnusableGroup}
use Rattle.label.specs.Classes.{between}
use Rattle.label.specs.Label.{Label}
use Rattle.carrier.specs.declared.answer.Answer.TheVariants.{PassedOver, Kept}
use Rattle.carrier.specs.Meaning.{Meaning, Outcome, answered, refused}
use Rattle.taking.specs.Events.{Event, piece, tags, aside, OnAir}
use Rattle.taking.specs.Segments.{Numbered, Held, numbered}
use Rattle.taking.specs.Taking.{Tags, Taken, new_taken, on_text, on_tags}
use Rattle.fm.specs.Frames.{application, last_segment, segment, sent_tags, fm_writing}
use Rattle.fm.specs.Text.{fm_pieces}

-- the taking state: that of the shared rules, and the tag group that was learnt
pub record FmState : Type 0 where
  pub core : Taken (Held (List ℕ))
  pub group : Option ℕ

-- block 2: group type, version, own bits
abbrev pub group_of : List ℕ → ℕ
group_of f = slice_index f 2 / 16

abbrev pub version_of : List ℕ → ℕ
version_of f = slice_index f 2 / 8 % 2

abbrev pub own_bits : List ℕ → ℕ
own_bits f = slice_index f 3 % 32

-- a group 3A that speaks of RT+
abbrev pub announces : List ℕ → Bool
announces f = group_of f == 3 && slice_index f 6 * 256 + slice_index f 7 == application

-- the RT/eRT flag in block 3
abbrev pub ert_flag : List ℕ → Bool
ert_flag f = slice_index f 4 / 32 % 2 == 1

-- groups that may carry tags
abbrev pub usable : ℕ → Bool
usable g = between 5 9 g || between 11 13 g

-- the result of the shared rules, with the learnt group as it was
abbrev pub lifted : FmState → Outcome (Taken (Held (List ℕ))) → Outcome FmState
lifted s (answered a t) = answered a (record { core = t; group = s.group })
lifted s (refused e) = refused e

abbrev pub with_group : FmState → Option ℕ → FmState
with_group s g = record { core = s.core; group = g }

-- an announcement: with the flag the group is forgotten, without it the group is learnt
abbrev pub learns : FmState → List ℕ → Outcome FmState
learns s f =
    cond (ert_flag f) (answered Kept (with_group s None))
    (cond (own_bits f % 2 == 0 && usable (own_bits f / 2)) (answered Kept (with_group s (Some (own_bits f / 2)))) (refused UnusableGroup))

abbrev pub has_learnt : Option ℕ → ℕ → Bool
has_learnt None g = false
has_learnt (Some h) g = h == g

-- a text segment: own bits are the message toggle and the number, blocks 3 and 4 the bytes
abbrev pub text_toggle : List ℕ → Bool
text_toggle f = own_bits f / 16 == 1

abbrev pub text_piece : List ℕ → Numbered (List ℕ)
text_piece f = record { number = own_bits f % 16; segment = drop 4 f }

-- the 37 bits of a tag group: its own bits, block 3 and block 4
abbrev pub read_bits : List ℕ → ℕ
read_bits f = (((own_bits f * 256 + slice_index f 4) * 256 + slice_index f 5) * 256 + slice_index f 6) * 256 + slice_index f 7

-- from the low end: length, start, class of tag 2; length, start, class of tag 1; item running, item toggle
abbrev pub unpacked : ℕ → Tags
unpacked n = record {
  item = record { toggle = (n / 32 / 64 / 64 / 64 / 64 / 64 / 2 % 2 == 1); running = (n / 32 / 64 / 64 / 64 / 64 / 64 % 2 == 1) };
  tags = record { class = n / 32 / 64 / 64 / 64 / 64 % 64; start = n / 32 / 64 / 64 / 64 % 64; extent = n / 32 / 64 / 64 % 64 }
      ∷ record { class = n / 32 / 64 % 64; start = n / 32 % 64; extent = n % 32 } ∷ [];
}

-- a group of version A: text, announcement, tags, or another's
abbrev pub step_a : FmState → List ℕ → Outcome FmState
step_a s f =
    cond (group_of f == 2) (lifted s (on_text fm_pieces s.core (text_toggle f) (text_piece f)))
    (cond (announces f) (learns s f)
    (cond (has_learnt s.group (group_of f)) (lifted s (on_tags fm_pieces s.core None (unpacked (read_bits f)))) (answered PassedOver s)))

abbrev pub fm_step : FmState → List ℕ → Outcome FmState
fm_step s f = cond (length f == 8) (cond (version_of f == 0) (step_a s f) (answered PassedOver s)) (refused WrongSize)

-- FM as a carrier
abbrev pub fm : Meaning FmState
fm = record {
  writing = fm_writing;
  fresh = record { core = new_taken fm_pieces; group = None };
  step = fm_step;
  standing = λ s. s.core.standing;
  told = λ s. s.core.told;
}

-- a label as FM sends it, to the shared rules: its tags have no message toggle
abbrev pub fm_air : Label → Bool → OnAir (Numbered (List ℕ))
fm_air l t = record {
  toggle = t;
  count = suc (last_segment (length l.text));
  pieces = numbered (segment l.text);
  tags = record { item = l.item; tags = sent_tags l.tags };
  tags_toggle = None;
}

-- what a frame of a label is to the shared rules
abbrev pub fm_event : Label → FmState → ℕ → Event
fm_event l s n =
    cond (nat_le n (last_segment (length l.text))) (piece n)
    (cond (n == last_segment (length l.text) + 1) aside (cond (has_learnt s.group 11) tags aside))
