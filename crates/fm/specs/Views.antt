-- What the structs of the taking side stand for.
use Rattle.std.specs.Prelude.{ℕ, List}
use Rattle.fm.specs.declared.fm.Fm.{Fm}
use Rattle.fm.specs.declared.text.FmSegment.{FmSegment}
use Rattle.fm.specs.Taking.{FmState}
use Rattle.taking.specs.Rows.{row_held}
use Rattle.taking.specs.Views.{view}

-- a segment's bytes
abbrev pub fm_segment : FmSegment → List ℕ
fm_segment s = s.0

-- the taking state
abbrev pub fm_view : Fm → FmState
fm_view s = record { core = view (row_held fm_segment) s.taking; group = s.group }
