use Rattle.std.proofs.Common.{◌≡◌, take, drop, ap, ◌∙◌, rules, tests}
use Rattle.std.specs.List.{prefix_len}
use Rattle.std.proofs.lemmas.Iterator.{YieldsList-from_slice}
use Rattle.std.proofs.lemmas.Iterator.Consumers.{count_from_yields_List}
use Rattle.std.proofs.lemmas.Iterator.Search.{YieldsList-from_take_while}
use Rattle.std.proofs.lemmas.List.Folds.{length-prefix_len}
use Rattle.programme.proofs.rows.split_while.Goals as goal

pub returns : goal.returns
returns g c = λ p h.
    let s = c.args.s.now in
    let n : c.count-n.result ≡ prefix_len p s
    = count_from_yields_List c.take_while.result c.count-n.result c.count-n.ensures.ran
    (YieldsList-from_take_while _ p (YieldsList-from_slice s (cc)) c.take_while.ensures.closure c.take_while.ensures.done (λ x r q k. search (rules, tests, h)))
    ∙ length-prefix_len p s in
    (c.split_at.ensures.front ∙ ap (λ k. take k s) n, c.split_at.ensures.back ∙ ap (λ k. drop k s) n)
