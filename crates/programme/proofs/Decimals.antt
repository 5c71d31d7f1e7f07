-- A depth as it is printed.
use Rattle.std.proofs.Common.{◌≡◌, ℕ, ◌+◌, ◌/◌, ◌%◌, ◌<◌, ◌≤◌, true, false, cond, ltb, List, [], ◌∷◌, ◌++◌, ◌⊎◌, inl, inr, append_assoc, ap, ◌∙◌, arith}
use Rattle.std.specs.Fmt.{decimal}
use Rattle.std.proofs.lemmas.Bool.{cases_lt, lt-ltb, le-ltb}
use Rattle.std.proofs.lemmas.Fmt.{decimal_digit, decimal_step}
use Rattle.programme.specs.Labels.{depth_digits}

by_size : (t : ℕ) → t < 1000 → (t < 100) ⊎ (100 ≤ t) → decimal (t / 10) ≡ cond (ltb t 100) [] ((48 + t / 100) ∷ []) ++ ((48 + t / 10 % 10) ∷ [])
by_size t low (inl small) =
    let test : ltb t 100 ≡ true = lt-ltb t 100 small in
    let units : t / 10 ≡ t / 10 % 10 = omega arith in
    rw test (decimal_digit (t / 10) (omega arith) ∙ ap (λ n. (48 + n) ∷ []) units)
by_size t low (inr large) =
    let test : ltb t 100 ≡ false = le-ltb t 100 large in
    let tens : t / 10 / 10 ≡ t / 100 = omega arith in
    rw test (
    decimal_step (t / 10) (omega arith) (omega arith)
    ∙ ap (λ ds. ds ++ ((48 + t / 10 % 10) ∷ [])) (decimal_digit (t / 10 / 10) (omega arith) ∙ ap (λ n. (48 + n) ∷ []) tens)
    )

-- what is printed of a depth is its digits
pub depth_shown : (t : ℕ) (behind : List ℕ) → t < 1000 → decimal (t / 10) ++ (46 ∷ (decimal (t % 10) ++ behind)) ≡ depth_digits t ++ behind
depth_shown t behind low =
    let tenth : decimal (t % 10) ≡ (48 + t % 10) ∷ [] = decimal_digit (t % 10) (omega arith) in
    rw (by_size t low (cases_lt t 100), tenth) (simp append_assoc)
