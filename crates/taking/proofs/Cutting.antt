-- A row cut into segments of one width, joined again.
use Rattle.std.proofs.Common.{◌≡◌, ℕ, zero, suc, ◌+◌, ◌<◌, ◌≤◌, Bool, true, false, List, [], ◌∷◌, ◌++◌, length, take, drop, sym, refl, ap, ◌∙◌, subst, arith, length-drop}
use mathlib.Core.Bool.{beq}
use Rattle.std.proofs.lemmas.List.{take-append-drop, drop-drop, take_all, append-nil}
use Rattle.std.proofs.lemmas.Bool.{eq-eqb, and_from}
use Rattle.taking.specs.Bytes.{same_bytes}
use Rattle.taking.specs.Segments.{Segments, all_bytes}

pub bytes_same : (xs : List ℕ) → same_bytes xs xs ≡ true
bytes_same [] = refl
bytes_same (x ∷ xs) = and_from _ _ (eq-eqb x x refl) (bytes_same xs)

pub beq_same : (t : Bool) → beq t t ≡ true
beq_same true = refl
beq_same false = refl

module _ {D : Type 0} (g : Segments D) (x : List ℕ) (m w : ℕ) (d : ℕ → D) (at : ℕ → ℕ) (next : (i : ℕ) → at (suc i) ≡ at i + w)
    (cut : (i : ℕ) → i < suc m → g.bytes (d i) ≡ take w (drop (at i) x)) (room : length x ≤ at m + w) where
  pub cut_joins : (k i : ℕ) → i + k ≡ m → all_bytes g d (suc k) i ≡ drop (at i) x
  cut_joins zero i e =
      let z : i ≡ m = omega arith in
      append-nil (g.bytes (d i)) ∙ cut i (omega arith) ∙ take_all w (drop (at i) x) (subst (λ n. length (drop (at n) x) ≤ w) (sym z) (simp length-drop (omega arith)))
  cut_joins (suc k) i e =
      ap (λ ys. g.bytes (d i) ++ ys) (cut_joins k (suc i) (omega arith) ∙ ap (λ n. drop n x) (next i) ∙ sym (drop-drop w (at i) x))
      ∙ ap (λ ys. ys ++ drop w (drop (at i) x)) (cut i (omega arith))
      ∙ take-append-drop w (drop (at i) x)
