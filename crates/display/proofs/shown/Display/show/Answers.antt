use Rattle.std.proofs.Common.{length, sym, ap, ◌∙◌}
use Rattle.carrier.specs.Aired.{told_label}
use Rattle.display.specs.Held.{runs}
use Rattle.display.proofs.Rows.{idle_after}
use Rattle.display.proofs.shown.Display.show.Goals as goal

pub invariant_of-self : goal.invariant_of-self
invariant_of-self g c = record {
  small = c.apply.ensures.small c.args.self.now.small;
  idle = λ k i r. ap length (ap (λ t. t.row k) c.apply.ensures.table ∙ idle_after _ (told_label c.in-Some.told.now) k _ i (ap runs (sym c.apply.ensures.last) ∙ r));
}
