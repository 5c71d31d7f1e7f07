-- A text on DAB as it is put together: 8 segments of up to 16 bytes, the last with a flag.
use Rattle.std.specs.Prelude.{ℕ, Bool, true, ◌&&◌, List, length, None, ◌==◌}
use Rattle.std.specs.Bool.{beq}
use Rattle.std.specs.Str.{bytes_eq}
use Rattle.taking.specs.Pieces.{Pieces}
use Rattle.taking.specs.Segments.{Segments, Numbered, Held, in_segments}
use Rattle.taking.specs.declared.look.Look.TheVariants.{Unlike}
use Rattle.dab.specs.Frames.{segment, last_segment}

-- a segment: its data bytes, and whether the text ends in it
pub record Flagged : Type 0 where
  pub body : List ℕ
  pub last : Bool

-- segments are compared by their data bytes and their flags
abbrev pub same_segment : Flagged → Flagged → Bool
same_segment c d = bytes_eq c.body d.body && beq c.last d.last

-- a segment behind the last is unlike what is held, and so is a last one before a segment that is held
abbrev pub dab_segments : Segments Flagged
dab_segments = record {
  count = 8;
  ends = λ d. d.last;
  bytes = λ d. d.body;
  unended = None;
  same = same_segment;
  past = Unlike;
  shuts = true;
}

abbrev pub dab_pieces : Pieces (Held Flagged) (Numbered Flagged)
dab_pieces = in_segments dab_segments

-- a text's own segments
abbrev pub text_segment : List ℕ → ℕ → Flagged
text_segment x n = record { body = segment x n; last = (n == last_segment (length x)) }
