use Rattle.std.proofs.Common.{◌≡◌, ◌-◌, ◌*◌, ◌≤◌, length}
use Rattle.taking.specs.Rows.{held_in}
use Rattle.taking.specs.Segments.{joined, read_from}
use Rattle.taking.proofs.row.joined.Given as goal

abbrev pub invariant-loop-segment : goal.invariant-loop-segment
invariant-loop-segment g l =
    let h = held_in g.S.Segment.meant l.segments in
    record {
      fits : g.row.N * length l.text.items ≤ 128 * l.segment-index;
      read : read_from g.S.Segment.segments h g.row.N 0 ≡ joined l.text.items (read_from g.S.Segment.segments h (g.row.N - l.segment-index) l.segment-index);
    }
