use Rattle.std.proofs.Common.{[], ◌∷◌, ◌++◌, take, sym, ap, ◌∙◌}
use Rattle.std.proofs.lemmas.List.{take_more}
use Rattle.past.specs.Entries.{holding, added}
use Rattle.past.proofs.Adding.{one_more}
use Rattle.past.proofs.Past.add_all.Goals as goal

pub loop-x-preserved : goal.loop-x-preserved
loop-x-preserved g c =
    let old = holding c.args.self.now in
    let xs = c.args.xs.now in
    let i = c.loop-x.x-index in
    c.add.ensures
    ∙ ap (added (c.x-item.result ∷ [])) c.loop-x.invariant
    ∙ one_more c.x-item.result (take i xs) old
    ∙ ap (λ ys. added ys old) (ap (λ x. take i xs ++ x ∷ []) c.x-item.is ∙ sym (take_more xs i c.x-item.result c.loop-x-test.true))
