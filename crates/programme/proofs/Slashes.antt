-- The first slash between two spaces, by the windows of three bytes.
use Rattle.std.proofs.Common.{rules, ◌≡◌, ℕ, suc, ◌+◌, ◌≤◌, Bool, true, false, cond, ◌&&◌, List, [], ◌∷◌, length, drop, MatchOption, Option, Some, None, refl, ap, ◌∙◌, arith}
use Rattle.std.specs.List.{position_from}
use Rattle.std.specs.Cmp.Lexicographic.{pointwise}
use Rattle.std.specs.Prelude.{nat_eq}
use Rattle.std.specs.Slice.Iter.{windows_size, windows_rest, windows_steps}
use Rattle.std.specs.declared.slice.Windows.{Windows}
use Rattle.std.specs.Iterator.{AlwaysYields}
use Rattle.std.proofs.lemmas.Iterator.{YieldsList}
use Rattle.programme.specs.Rows.{slash_first, slash_at}

-- the windows of three bytes
abbrev pub threes : List ℕ → List (List ℕ)
threes (a ∷ b ∷ c ∷ s) = (a ∷ b ∷ c ∷ []) ∷ threes (b ∷ c ∷ s)
threes (a ∷ b ∷ []) = []
threes (a ∷ []) = []
threes [] = []

abbrev pub is_slash : List ℕ → Bool
is_slash w = pointwise nat_eq w (32 ∷ 47 ∷ 32 ∷ [])

threes_given : (s : List ℕ) (w : Windows ℕ) → windows_size w ≡ 3 → windows_rest w ≡ s → AlwaysYields windows_steps (λ x. x.now) w (threes s)
threes_given (a ∷ b ∷ c ∷ s) w n r =
    (λ j t. search (rules, arith, n, r, t), λ x j t. (t.1.1 ∙ rw (n, r) refl, threes_given (b ∷ c ∷ s) j (t.0 ∙ n) (t.1.2 ∙ ap (drop 1) r)))
threes_given (a ∷ b ∷ []) w n r = λ x j t. search (rules, arith, n, r, t)
threes_given (a ∷ []) w n r = λ x j t. search (rules, arith, n, r, t)
threes_given [] w n r = λ x j t. search (rules, arith, n, r, t)

-- what `windows(3)` yields
pub YieldsList-from_threes : {w : Windows ℕ} (s : List ℕ) → windows_size w ≡ 3 → windows_rest w ≡ s → YieldsList windows_steps (λ x. x.now) w (threes s)
YieldsList-from_threes {w} s n r = record { runs = threes_given s w n r }

same : (p q r : Bool) → (p && (q && (r && true))) ≡ (p && (q && r))
same false q r = refl
same true false r = refl
same true true false = refl
same true true true = refl

-- less than three bytes begin with no slash
never : (t : Bool) (n m : ℕ) → n ≡ m → cond (t && false) 0 (suc n) ≡ suc m
never true n m e = ap (λ k. suc k) e
never false n m e = ap (λ k. suc k) e

never_two : (t u : Bool) (n m : ℕ) → n ≡ m → cond (t && (u && false)) 0 (suc n) ≡ suc m
never_two t true n m e = never t n m e
never_two t false n m e = never t n m e

-- one byte more at the front
step : (t : Bool) (i : ℕ) (rest : Option ℕ) (n m : ℕ) → 2 ≤ m → MatchOption rest (n ≡ m) (λ at. (at ≡ i + 1 + n) × (n + 3 ≤ m)) → MatchOption (cond t (Some i) rest) (cond t 0 (suc n) ≡ suc m) (λ at. (at ≡ i + cond t 0 (suc n)) × (cond t 0 (suc n) + 3 ≤ suc m))
step true i rest n m l h = (omega arith, omega (arith, l))
step false i None n m l h = ap (λ k. suc k) h
step false i (Some at) n m l h = (omega (arith, h), omega (arith, h))

slash_found : (s : List ℕ) (i : ℕ) → MatchOption (position_from is_slash i (threes s)) (slash_at s ≡ length s) (λ at. (at ≡ i + slash_at s) × (slash_at s + 3 ≤ length s))
slash_found (a ∷ b ∷ c ∷ s) i =
    rw (same (nat_eq a 32) (nat_eq b 47) (nat_eq c 32)) (step (slash_first (a ∷ b ∷ c ∷ s)) i (position_from is_slash (i + 1) (threes (b ∷ c ∷ s))) (slash_at (b ∷ c ∷ s)) (length (b ∷ c ∷ s)) (omega arith) (slash_found (b ∷ c ∷ s) (i + 1)))
slash_found (a ∷ b ∷ []) i = never_two (nat_eq a 32) (nat_eq b 47) _ _ (never (nat_eq b 32) 0 0 refl)
slash_found (a ∷ []) i = never (nat_eq a 32) 0 0 refl
slash_found [] i = refl

from_start : (r : Option ℕ) (n m : ℕ) → MatchOption r (n ≡ m) (λ at. (at ≡ 0 + n) × (n + 3 ≤ m)) → MatchOption r (n ≡ m) (λ at. (at ≡ n) × (at + 3 ≤ m))
from_start None n m h = h
from_start (Some at) n m h = (omega (arith, h), omega (arith, h))

-- the first window that is a slash stands where the first slash stands
pub first_slash : (s : List ℕ) → MatchOption (position_from is_slash 0 (threes s)) (slash_at s ≡ length s) (λ at. (at ≡ slash_at s) × (at + 3 ≤ length s))
first_slash s = from_start _ _ _ (slash_found s 0)
