use Rattle.std.proofs.Common.{◌≡◌, ◌-◌, length, take, reverse, ap, ◌∙◌, rules, tests}
use Rattle.std.specs.List.{suffix_len}
use Rattle.std.proofs.lemmas.Iterator.Adapters.{YieldsList-from_rev_slice}
use Rattle.std.proofs.lemmas.Iterator.Consumers.{count_from_yields_List}
use Rattle.std.proofs.lemmas.Iterator.Search.{YieldsList-from_take_while}
use Rattle.std.proofs.lemmas.List.Folds.{length-prefix_len}
use Rattle.programme.specs.Rows.{is_space}
use Rattle.programme.proofs.rows.trim_end.Goals as goal

pub returns : goal.returns
returns c =
    let s = c.args.s.now in
    let n : c.count-spaces.result ≡ suffix_len is_space s
    = count_from_yields_List c.take_while.result c.count-spaces.result c.count-spaces.ensures.ran
    (YieldsList-from_take_while _ is_space (YieldsList-from_rev_slice s (cc)) c.take_while.ensures.closure c.take_while.ensures.done (λ x r q k. search (rules, tests)))
    ∙ length-prefix_len is_space (reverse s) in
    ap (λ k. take (length s - k) s) n
