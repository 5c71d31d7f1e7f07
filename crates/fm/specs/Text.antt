-- How FM puts a text together: 16 segments of four bytes, and a 0x0D that closes a shorter text.
use Rattle.std.specs.Prelude.{ℕ, Bool, false, List, [], Some, ◌==◌}
use Rattle.std.specs.List.{list_any, before_first}
use Rattle.taking.specs.declared.look.Look.TheVariants.{Behind}
use Rattle.taking.specs.Bytes.{same_bytes}
use Rattle.taking.specs.Pieces.{Pieces}
use Rattle.taking.specs.Segments.{Segments, Numbered, Held, in_segments}

-- the row has a 0x0D
abbrev pub has_return : List ℕ → Bool
has_return xs = list_any (λ x. x == 0x0D) xs

-- the bytes before its first 0x0D
abbrev pub before_return : List ℕ → List ℕ
before_return xs = before_first (λ x. x == 0x0D) xs

abbrev pub fm_segments : Segments (List ℕ)
fm_segments = record { count = 16; ends = has_return; bytes = before_return; unended = Some []; same = same_bytes; past = Behind; shuts = false }

abbrev pub fm_pieces : Pieces (Held (List ℕ)) (Numbered (List ℕ))
fm_pieces = in_segments fm_segments
