use Rattle.std.proofs.Common.{◌≡◌, ◌++◌, ℕ, false, List, [], ◌∷◌, length, refl, sym, ap, ◌∙◌, subst, arith}
use Rattle.std.specs.Result.{OnOk}
use Rattle.std.proofs.lemmas.Bool.Decides.{nat_tests}
use Rattle.std.proofs.lemmas.List.{take_all}
use Rattle.fm.specs.Text.{before_return, has_return}
use Rattle.fm.specs.Texts.{return_at}
use Rattle.fm.proofs.text.FmSegmentSegment16.add_to.Goals as goal

-- a row without a 0x0D ends in none
unended : (xs : List ℕ) → has_return xs ≡ false → return_at xs ≡ length xs
unended [] e = refl
unended (x ∷ xs) e = grind (arith, nat_tests, unended xs)

pub returns-else-ends-clause-text : goal.returns-else-ends-clause-text
returns-else-ends-clause-text c =
    let olds = c.args.text.now.items in
    let news = c.try_extend_from_slice-else-ends.new.self.items in
    let xs = c.args.self.now.0 in
    let added : news ≡ olds ++ xs = subst (λ r. OnOk r (news ≡ olds ++ xs)) c.unwrap-else-ends.ensures c.try_extend_from_slice-else-ends.ensures.ok in
    let whole : before_return xs ≡ xs = take_all (return_at xs) xs (omega (arith, unended xs (sym c.ends-ends.ensures ∙ c.if-ends.false))) in
    added ∙ ap (λ ys. olds ++ ys) (sym whole)
