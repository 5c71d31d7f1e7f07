-- What a row of digits writes, and the tenths of a decimal number.
use Rattle.std.proofs.Common.{◌≡◌, ℕ, zero, suc, ◌+◌, ◌-◌, ◌*◌, ◌^◌, ◌<◌, ◌≤◌, Bool, true, false, cond, eqb, leb, List, [], ◌∷◌, ◌++◌, length, get_or, fold, refl, ap, ◌∙◌, mul_assoc, mul_comm, add-mul, pow-suc, zero-mul, le-mul_of_pos_right, div-one, arith}
use native.Mathlib.Nat.{mul-div-mul_right}
use lib.Arith.{digits_lt, digits_div}
use Rattle.std.specs.List.{prefix_len}
use Rattle.std.proofs.lemmas.List.{append-nil}
use Rattle.std.proofs.lemmas.List.Sums.{fold-append}
use Rattle.std.proofs.lemmas.Bool.{eqb-true, eq-eqb, and_parts, leb-true}
use Rattle.programme.specs.Numerals.{is_digit, all_digits, numeral}
use Rattle.programme.specs.Depth.{tenths_of}

abbrev step : ℕ → ℕ → ℕ
step n b = n * 10 + (b - 48)

tens_pos : (k : ℕ) → 0 < 10 ^ k
tens_pos zero = omega arith
tens_pos (suc k) = rw pow-suc (omega (arith, tens_pos k))

shifted : (n d p : ℕ) → (n * 10 + d) * p ≡ n * (p * 10) + d * p
shifted n d p = add-mul (n * 10) d p ∙ ap (λ x. x + d * p) (mul_assoc n 10 p ∙ ap (λ x. n * x) (mul_comm 10 p))

-- digits in front of a row count as much more as the row is long
weighs : (n : ℕ) (bs : List ℕ) → fold step n bs ≡ n * 10 ^ length bs + numeral bs
weighs n [] = omega arith
weighs n (b ∷ bs) =
    let p = 10 ^ length bs in
    let front : fold step (n * 10 + (b - 48)) bs ≡ (n * 10 + (b - 48)) * p + numeral bs = weighs (n * 10 + (b - 48)) bs in
    let self : fold step (0 * 10 + (b - 48)) bs ≡ (0 * 10 + (b - 48)) * p + numeral bs = weighs (0 * 10 + (b - 48)) bs in
    let a = shifted n (b - 48) p in
    let z = shifted 0 (b - 48) p in
    let w : 10 ^ suc (length bs) ≡ p * 10 = pow-suc 10 (length bs) in
    let m = zero-mul (p * 10) in
    rw w (omega (arith, front, self, a, z, m))

pub joined : (ws fs : List ℕ) → numeral (ws ++ fs) ≡ numeral ws * 10 ^ length fs + numeral fs
joined ws fs = fold-append step 0 ws fs ∙ weighs (numeral ws) fs

pub zero_numeral : (ws fs : List ℕ) → numeral ws ≡ 0 → numeral fs ≡ 0 → numeral (ws ++ fs) ≡ 0
zero_numeral ws fs p q = joined ws fs ∙ rw (p, q) (omega (arith, zero-mul (10 ^ length fs)))

pub part_le : (ws fs : List ℕ) → numeral ws + numeral fs ≤ numeral (ws ++ fs)
part_le ws fs = omega (arith, joined ws fs, le-mul_of_pos_right (numeral ws) (tens_pos (length fs)))

-- a row of digits only
first_counted : (t : Bool) (a b : ℕ) → eqb (cond t (1 + a) 0) (suc b) ≡ true → (t ≡ true) × (a ≡ b)
first_counted true a b e = (refl, omega (arith, eqb-true (1 + a) (suc b) e))
first_counted false a b e = absurd (omega (arith, eqb-true 0 (suc b) e))

pub first_digit : (b : ℕ) (bs : List ℕ) → all_digits (b ∷ bs) ≡ true → b - 48 < 10
first_digit b bs h =
    let t = and_parts (leb 48 b) (leb b 57) (first_counted (is_digit b) (prefix_len is_digit bs) (length bs) h).0 in
    omega (arith, leb-true b 57 t.1)

behind_digits : (b : ℕ) (bs : List ℕ) → all_digits (b ∷ bs) ≡ true → all_digits bs ≡ true
behind_digits b bs h = eq-eqb _ _ (first_counted (is_digit b) (prefix_len is_digit bs) (length bs) h).1

numeral_first : (b : ℕ) (bs : List ℕ) → numeral (b ∷ bs) ≡ (b - 48) * 10 ^ length bs + numeral bs
numeral_first b bs = weighs (0 * 10 + (b - 48)) bs ∙ (let e : 0 * 10 + (b - 48) ≡ b - 48 = omega arith in rw e)

numeral_lt : (bs : List ℕ) → all_digits bs ≡ true → numeral bs < 10 ^ length bs
numeral_lt [] h = omega arith
numeral_lt (b ∷ bs) h =
    rw (numeral_first b bs, pow-suc 10 (length bs), mul_comm (10 ^ length bs) 10)
    (digits_lt (first_digit b bs h) (numeral_lt bs (behind_digits b bs h)))

-- the tenths are the metres and the first digit behind the mark
pub tenths_are : (ws fs : List ℕ) → all_digits fs ≡ true → tenths_of ws fs ≡ numeral ws * 10 + (get_or fs 0 48 - 48)
tenths_are ws [] h = rw (append-nil ws, div-one (numeral ws * 10)) (omega arith)
tenths_are ws (b ∷ fs) h =
    let p = 10 ^ length fs in
    let v : numeral (ws ++ (b ∷ fs)) ≡ (numeral ws * 10 + (b - 48)) * p + numeral fs
    = joined ws (b ∷ fs) ∙ rw (pow-suc 10 (length fs), numeral_first b fs) (omega (arith, shifted (numeral ws) (b - 48) p)) in
    let ten : 0 < 10 = omega arith in
    rw (v, pow-suc 10 (length fs), mul-div-mul_right ((numeral ws * 10 + (b - 48)) * p + numeral fs) p ten)
    (digits_div (numeral ws * 10 + (b - 48)) (numeral_lt fs (behind_digits b fs h)))

pub tenth_lt : (fs : List ℕ) → all_digits fs ≡ true → get_or fs 0 48 - 48 < 10
tenth_lt [] h = omega arith
tenth_lt (b ∷ bs) h = first_digit b bs h
