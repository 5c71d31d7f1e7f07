use Rattle.std.proofs.Common.{arith}
use Rattle.taking.proofs.Rows.{ends_are}
use Rattle.taking.proofs.row.ends_before.Goals as goal

pub returns : goal.returns
returns g c = let e = ends_are g.S.Segment.segments g.S.Segment.meant c.args.segments.now c.args.number c.requires in grind arith
