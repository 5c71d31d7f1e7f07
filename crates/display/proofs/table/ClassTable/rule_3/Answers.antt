use Rattle.std.proofs.Common.{sym, refl, arith}
use Rattle.carrier.specs.Aired.{told_label}
use Rattle.display.specs.Held.{held}
use Rattle.display.proofs.Tags.{none_stored}
use Rattle.display.proofs.Steps.{stored_next}
use Rattle.display.proofs.table.ClassTable.rule_3.Goals as goal

pub loop-tag-init : goal.loop-tag-init
loop-tag-init c = record {
  rows = record { rows = λ k. sym (none_stored (told_label c.args.told.now) k (held c.args.self.now k)); last = refl };
  small = λ s. s;
}

pub loop-tag-preserved : goal.loop-tag-preserved
loop-tag-preserved c = record {
  rows = stored_next c.args.told.now _ c.as_slice-tag-items.ensures.value _ _ c.loop-tag-test.true _ _ _ _ _ c.by.ensures.class c.by.ensures.part c.loop-tag.invariant.rows c.store.ensures;
  small = λ s k. let room = c.by.result.room in let old = c.loop-tag.invariant.small s k in rw (c.store.ensures.rows k) (grind arith);
}
