use Rattle.std.proofs.Common.{sym, refl}
use Rattle.carrier.specs.Aired.{told_label}
use Rattle.display.specs.Held.{held}
use Rattle.display.proofs.Tags.{none_deleted}
use Rattle.display.proofs.Steps.{deleted_next}
use Rattle.display.proofs.table.ClassTable.rule_2.Goals as goal

pub loop-tag-init : goal.loop-tag-init
loop-tag-init c = record { rows = λ k. sym (none_deleted (told_label c.args.told.now) k (held c.args.self.now k)); last = refl }

pub loop-tag-preserved : goal.loop-tag-preserved
loop-tag-preserved c = deleted_next c.args.told.now _ c.as_slice-tag-items.ensures.value _ _ c.loop-tag-test.true _ _ _ _ _ c.by.ensures.class c.by.ensures.part c.loop-tag.invariant c.delete.ensures
