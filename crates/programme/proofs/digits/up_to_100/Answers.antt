use Rattle.std.proofs.Common.{◌≡◌, ℕ, ◌+◌, ◌-◌, ◌*◌, ◌∙◌, min, rules, tests, arith}
use Rattle.std.proofs.lemmas.Iterator.{YieldsList-from_slice}
use Rattle.std.proofs.lemmas.Iterator.Consumers.{fold_from_yields_List}
use Rattle.std.proofs.lemmas.List.Folds.{fold_along}
use Rattle.programme.proofs.digits.up_to_100.Goals as goal

-- a step of the program
abbrev step : ℕ → ℕ → ℕ
step n b = min (min (min (n * 10) 65535 + (b - 48)) 65535) 100

kept : (n m b : ℕ) → n ≡ min 100 m → step n b ≡ min 100 (m * 10 + (b - 48))
kept n m b e = omega arith

pub returns : goal.returns
returns c =
    fold_from_yields_List _ step 0 _ c.fold.ensures.ran (YieldsList-from_slice c.args.s.now (cc)) (λ a x b q k. search (rules, tests))
    ∙ fold_along step (λ n b. n * 10 + (b - 48)) (λ n m. n ≡ min 100 m) (λ n m b e. kept n m b e) 0 0 c.args.s.now (omega arith)
