use Rattle.std.proofs.Common.{◌∙◌, rules, tests}
use Rattle.std.proofs.lemmas.Iterator.Search.{position_from_yields_List}
use Rattle.std.proofs.lemmas.Iterator.Adapters.{position_from-zero}
use Rattle.programme.proofs.Slashes.{is_slash, threes, YieldsList-from_threes, first_slash}
use Rattle.programme.proofs.rows.slash_position.Goals as goal

pub returns : goal.returns
returns c =
    let s = c.args.s.now in
    let e = position_from_yields_List is_slash _ _ _ c.position.ensures.ran (YieldsList-from_threes s (cc) (cc)) (λ x b q k. search (rules, tests))
    ∙ position_from-zero is_slash (threes s) in
    rw e (first_slash s)
