-- Fronts of a row whose bytes pass a test.
use Rattle.std.proofs.Common.{◌≡◌, ℕ, suc, ◌+◌, Bool, true, false, cond, ◌&&◌, eqb, List, [], ◌∷◌, length, refl, sym, arith}
use Rattle.std.proofs.Math.Dec.{eqb-suc-suc}
use Rattle.std.specs.List.{prefix_len, list_all}
use Rattle.std.proofs.lemmas.Bool.{ne_eqb}

counts : (t : Bool) (n m : ℕ) (rest : Bool) → rest ≡ eqb n m → (t && rest) ≡ eqb (cond t (1 + n) 0) (1 + m)
counts true n m rest e =
    let a : 1 + n ≡ suc n = omega arith in
    let b : 1 + m ≡ suc m = omega arith in
    rw (a, b, eqb-suc-suc n m) e
counts false n m rest e = sym (ne_eqb 0 (1 + m) (λ e. omega arith))

-- all bytes pass where the front that passes is the whole
pub list_all_front : (p : ℕ → Bool) (s : List ℕ) → list_all p s ≡ eqb (prefix_len p s) (length s)
list_all_front p [] = refl
list_all_front p (x ∷ xs) =
    let e : suc (length xs) ≡ 1 + length xs = omega arith in
    rw e (counts (p x) (prefix_len p xs) (length xs) (list_all p xs) (list_all_front p xs))
