use Rattle.std.proofs.Common.{◌∙◌}
use Rattle.edge.proofs.Placed.{in_its_row}
use Rattle.edge.proofs.sill.frame.Goals as goal

pub returns : goal.returns
returns g c = c.in_own_place.ensures ∙ in_its_row _ _ _ _ _ c.in_ok-sealed.ensures c.default.ensures.0 c.default.ensures.1 (g.met.W.Worked.in_rows c.args.number)
