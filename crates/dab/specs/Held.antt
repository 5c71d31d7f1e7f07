-- What the structs that hold a text on DAB stand for.
use Rattle.carrier.specs.Listed.{listed}
use Rattle.taking.specs.Rows.{row_held}
use Rattle.taking.specs.Views.{view}
use Rattle.dab.specs.declared.segment.DabSegment.{DabSegment}
use Rattle.dab.specs.declared.dab.Dab.{Dab}
use Rattle.dab.specs.Text.{Flagged}
use Rattle.dab.specs.Taking.{State}

abbrev pub flagged : DabSegment → Flagged
flagged s = record { body = listed s.data; last = s.last }

abbrev pub dab_state : Dab → State
dab_state d = view (row_held flagged) d.taking
