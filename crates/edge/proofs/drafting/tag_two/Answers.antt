use Rattle.std.proofs.Common.{sym, ap, ◌∙◌}
use Rattle.std.proofs.lemmas.Result.{err_from_is_err_and}
use Rattle.label.specs.Drafts.{done}
use Rattle.edge.proofs.Drafted.{first, second}
use Rattle.edge.proofs.drafting.tag_two.Goals as goal

pub returns-in_err-tag : goal.returns-in_err-tag
returns-in_err-tag c =
    let p = err_from_is_err_and c.from_residual-in_err-tag.result c.from_residual-in_err-tag.ensures.1 in
    rw (p.1, p.2) (sym (first c.args.first c.args.second _ _ c.in_ok-draft.ensures.opens.1 (sym c.tag.ensures.reply ∙ c.in_err-tag.was)))

pub returns : goal.returns
returns c =
    c.tag-2.ensures.reply
    ∙ ap (λ x. done x tt) (second c.args.first c.args.second _ _ c.in_ok-draft.ensures.opens.1 (sym c.tag.ensures.reply ∙ c.in_ok-tag.was) c.tag.ensures.after)
