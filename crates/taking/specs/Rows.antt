-- What a row of segments stands for, where `meant` says what a segment is.
use Rattle.std.specs.Prelude.{ℕ, List, None, Option, slice_index_or}
use Rattle.std.specs.Option.{option_map}
use Rattle.taking.specs.Segments.{Held, Numbered}
use Rattle.taking.specs.declared.held.Piece.{Piece}
use Rattle.taking.specs.declared.held.Row.{Row}

-- the held segment of each number
abbrev pub held_in : {S D : Type 0} → (S → D) → List (Option S) → Held D
held_in meant rows = λ i. option_map meant (slice_index_or rows i None)

abbrev pub row_held : {S D : Type 0} {N : ℕ} → (S → D) → Row S N → Held D
row_held meant r = held_in meant r.segments

abbrev pub piece_meant : {S D : Type 0} {N : ℕ} → (S → D) → Piece S N → Numbered D
piece_meant meant p = record { number = p.number; segment = meant p.segment }
