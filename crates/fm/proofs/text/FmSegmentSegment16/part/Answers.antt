use Rattle.std.proofs.Common.{rules, tests, ◌≡◌, ℕ, not, List, length, take, Option, Some, None, cond, ltb, ap, ◌∙◌, arith}
use Rattle.std.specs.Bool.{◌==◌}
use Rattle.std.specs.Option.{unwrap_or}
use Rattle.std.proofs.lemmas.Bool.Decides.{nat_tests}
use Rattle.std.proofs.lemmas.List.Sums.{prefix_len-le-length}
use Rattle.std.proofs.lemmas.Iterator.{YieldsList-from_slice}
use Rattle.std.proofs.lemmas.Iterator.Search.{position_from_yields_List}
use Rattle.fm.specs.Texts.{return_at}
use Rattle.fm.proofs.text.FmSegmentSegment16.part.Goals as goal

ends_there : (xs : List ℕ) (r : Option ℕ) → length xs ≡ 4 → r ≡ cond (ltb (return_at xs) (length xs)) (Some (return_at xs)) None → unwrap_or r 4 ≡ return_at xs
ends_there xs r l e = grind (arith, nat_tests, prefix_len-le-length (λ x. not (x == 13)) xs)

pub returns-clause-value : goal.returns-clause-value
returns-clause-value c =
    let xs = c.args.self.now.0 in
    let found = position_from_yields_List (λ x. x == 13) _ _ c.position.result c.position.ensures.ran (YieldsList-from_slice _ c.iter.ensures.rest) (λ x b q k. search (rules, tests)) in
    ap (λ n. take n xs) (c.unwrap_or-end.ensures ∙ ends_there xs c.position.result (omega arith) found)
