use Rattle.std.proofs.Common.{rules}
use Rattle.display.proofs.Rows.{new_shown}
use Rattle.display.proofs.shown.Display.new.Goals as goal

pub returns : goal.returns
returns g c = new_shown _ _ _ _ c.new.ensures c.default.ensures.0 (search rules)
