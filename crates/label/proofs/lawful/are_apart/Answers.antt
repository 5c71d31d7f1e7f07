use Rattle.std.proofs.Common.{◌+◌, sym, ◌∙◌}
use Rattle.std.proofs.lemmas.List.{take_rest}
use Rattle.label.proofs.Sounding.{apart_from_here}
use Rattle.label.proofs.lawful.are_apart.Goals as goal

pub loop-i-preserved : goal.loop-i-preserved
loop-i-preserved c = apart_from_here c.args.tags.now c.loop-i.i _ _ c.loop-i.invariant c.loop-i-test.true (take_rest c.args.tags.now (c.loop-i.i + 1)) (sym c.clashes.ensures ∙ c.if-clashes.false)

pub returns-then-clashes : goal.returns-then-clashes
returns-then-clashes c = sym (apart_from_here c.args.tags.now c.loop-i.i _ _ c.loop-i.invariant c.loop-i-test.true (take_rest c.args.tags.now (c.loop-i.i + 1)) (sym c.clashes.ensures ∙ c.if-clashes.true))
