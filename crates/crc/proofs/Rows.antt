-- Rows of bits: how they add, and the bits of a number.
use Rattle.std.proofs.Common.{◌≡◌, ℕ, zero, suc, ◌+◌, ◌*◌, ◌/◌, ◌%◌, ◌^◌, ◌<◌, ◌≤◌, Bool, true, false, cond, eqb, List, [], ◌∷◌, ◌++◌, length, replicate, sym, refl, ap, ◌∙◌, ap₂, ⊎_elim, le_of_suc-le-suc, not-suc-le-zero, add-zero, add-suc, mul_assoc, pow-suc, mul-one, add-one, arith}
use mathlib.Core.Bool.{xor}
use lib.Bits.{bit_xor, xor_shr, xor_mod}
use Rattle.std.proofs.lemmas.List.{length_push, append_assoc, append-nil, replicate_more}
use Rattle.std.proofs.lemmas.Bool.{eqb-true, eqb-false, cases_Bool}
use Rattle.crc.specs.Check.{bits, number, added}

xor_assoc : (x y z : Bool) → xor (xor x y) z ≡ xor x (xor y z)
unfolding xor
xor_assoc true true true = refl
xor_assoc true true false = refl
xor_assoc true false true = refl
xor_assoc true false false = refl
xor_assoc false true true = refl
xor_assoc false true false = refl
xor_assoc false false true = refl
xor_assoc false false false = refl

xor_left : (x : Bool) → xor false x ≡ x
unfolding xor
xor_left true = refl
xor_left false = refl

xor_right : (x : Bool) → xor x false ≡ x
unfolding xor
xor_right true = refl
xor_right false = refl

pub added_assoc : (a b c : List Bool) → added (added a b) c ≡ added a (added b c)
added_assoc [] b c = refl
added_assoc (x ∷ a) [] c = refl
added_assoc (x ∷ a) (y ∷ b) [] = refl
added_assoc (x ∷ a) (y ∷ b) (z ∷ c) = ap₂ (λ u us. u ∷ us) (xor_assoc x y z) (added_assoc a b c)

pub length_added : (a row : List Bool) → length a ≤ length row → length (added a row) ≡ length row
length_added [] row h = refl
length_added (x ∷ a) [] h = absurd (not-suc-le-zero h)
length_added (x ∷ a) (y ∷ row) h = ap suc (length_added a row (le_of_suc-le-suc h))

zeros_on : (n : ℕ) (row : List Bool) → n ≤ length row → added (replicate n false) row ≡ row
zeros_on zero row h = refl
zeros_on (suc n) [] h = absurd (not-suc-le-zero h)
zeros_on (suc n) (y ∷ row) h = ap₂ (λ u us. u ∷ us) (xor_left y) (zeros_on n row (le_of_suc-le-suc h))

-- zeros behind a row do not count where the row below is as long
pub padded : (a : List Bool) (n : ℕ) (row : List Bool) → length a + n ≤ length row → added (a ++ replicate n false) row ≡ added a row
padded [] n row h = zeros_on n row (omega arith)
padded (x ∷ a) n [] h = absurd (omega (arith, h))
padded (x ∷ a) n (y ∷ row) h = ap (λ us. xor x y ∷ us) (padded a n row (omega arith))

-- a row added to as many zeros stands in their place
pub onto_zeros : (a row : List Bool) → added a (replicate (length a) false ++ row) ≡ a ++ row
onto_zeros [] row = refl
onto_zeros (x ∷ a) row = ap₂ (λ u us. u ∷ us) (xor_right x) (onto_zeros a row)

-- the last bit of a row counts one
number_push : (row : List Bool) (b : Bool) → number (row ++ (b ∷ [])) ≡ number row * 2 + cond b 1 0
number_push [] true = refl
number_push [] false = refl
number_push (true ∷ row) b =
    let e = number_push row b in
    let q : 2 ^ length (row ++ (b ∷ [])) ≡ 2 ^ length row * 2 = ap (λ m. 2 ^ m) (length_push row b ∙ add-one (length row)) ∙ pow-suc 2 (length row) in
    omega arith
number_push (false ∷ row) b = let e = number_push row b in omega arith

odd_bit : (n : ℕ) → cond (eqb (n % 2) 1) 1 0 ≡ n % 2
odd_bit n = ⊎_elim (λ e. let d = eqb-true (n % 2) 1 e in rw e (omega arith)) (λ e. let d = eqb-false (n % 2) 1 e in rw e (omega arith)) (cases_Bool (eqb (n % 2) 1))

pub number_bits : (k n : ℕ) → n < 2 ^ k → number (bits k n) ≡ n
number_bits zero n h = omega arith
number_bits (suc k) n h =
    let p = pow-suc 2 k in
    let e = number_bits k (n / 2) (omega arith) in
    let d = odd_bit n in
    let s = number_push (bits k (n / 2)) (eqb (n % 2) 1) in
    omega arith

-- the front bit is a zero below 2 ^ k, and a one from there on
pub front_zero : (k n : ℕ) → n < 2 ^ k → bits (suc k) n ≡ false ∷ bits k n
front_zero zero n h = let e : n ≡ 0 = omega arith in rw e
front_zero (suc k) n h =
    let p = pow-suc 2 k in
    ap (λ row. row ++ (eqb (n % 2) 1 ∷ [])) (front_zero k (n / 2) (omega arith))

pub front_one : (k n : ℕ) → n < 2 ^ k → bits (suc k) (2 ^ k + n) ≡ true ∷ bits k n
front_one zero n h = let e : n ≡ 0 = omega arith in rw e
front_one (suc k) n h =
    let p = pow-suc 2 k in
    let d : (2 ^ suc k + n) / 2 ≡ 2 ^ k + n / 2 = omega arith in
    let m : (2 ^ suc k + n) % 2 ≡ n % 2 = omega arith in
    ap₂ (λ a b. bits (suc k) a ++ (eqb b 1 ∷ [])) d m
    ∙ ap (λ row. row ++ (eqb (n % 2) 1 ∷ [])) (front_one k (n / 2) (omega arith))

-- a number doubled has a zero behind its bits
pub doubled : (k n : ℕ) → bits (suc k) (n * 2) ≡ bits k n ++ replicate 1 false
doubled k n =
    let d : n * 2 / 2 ≡ n = omega arith in
    let m : n * 2 % 2 ≡ 0 = omega arith in
    ap₂ (λ a b. bits k a ++ (eqb b 1 ∷ [])) d m

-- and one that is moved by j places has j of them
pub shifted : (j k n : ℕ) → bits (k + j) (n * 2 ^ j) ≡ bits k n ++ replicate j false
shifted zero k n = ap₂ bits (add-zero k) (mul-one n) ∙ sym (append-nil (bits k n))
shifted (suc j) k n =
    ap₂ bits (add-suc k j) (ap (λ m. n * m) (pow-suc 2 j) ∙ sym (mul_assoc n (2 ^ j) 2))
    ∙ doubled (k + j) (n * 2 ^ j)
    ∙ ap (λ row. row ++ (false ∷ [])) (shifted j k n)
    ∙ append_assoc (bits k n) (replicate j false) (false ∷ [])
    ∙ ap (λ row. bits k n ++ row) (replicate_more j false ∙ ap (λ m. replicate m false) (add-one j))

added_push : (a b : List Bool) (x y : Bool) → length a ≡ length b → added (a ++ (x ∷ [])) (b ++ (y ∷ [])) ≡ added a b ++ (xor x y ∷ [])
added_push [] [] x y e = refl
added_push [] (v ∷ b) x y e = absurd (omega (arith, e))
added_push (u ∷ a) [] x y e = absurd (omega (arith, e))
added_push (u ∷ a) (v ∷ b) x y e = ap (λ row. xor u v ∷ row) (added_push a b x y (omega arith))

length_bits : (k n : ℕ) → length (bits k n) ≡ k
length_bits zero n = refl
length_bits (suc k) n = length_push (bits k (n / 2)) (eqb (n % 2) 1) ∙ add-one (length (bits k (n / 2))) ∙ ap suc (length_bits k (n / 2))

below_two : (x y : ℕ) → x < 2 → y < 2 → eqb (bit_xor x y) 1 ≡ xor (eqb x 1) (eqb y 1)
unfolding xor
below_two zero zero h g = refl
below_two zero (suc zero) h g = refl
below_two zero (suc (suc y)) h g = absurd (omega (arith, g))
below_two (suc zero) zero h g = refl
below_two (suc zero) (suc zero) h g = refl
below_two (suc zero) (suc (suc y)) h g = absurd (omega (arith, g))
below_two (suc (suc x)) y h g = absurd (omega (arith, h))

-- to add two rows of bits is the exclusive or of the numbers
pub bits_xor : (k a b : ℕ) → bits k (bit_xor a b) ≡ added (bits k a) (bits k b)
bits_xor zero a b = refl
bits_xor (suc k) a b =
    ap₂ (λ m d. bits k m ++ (eqb d 1 ∷ [])) (xor_shr a b 1) (xor_mod a b 1)
    ∙ ap₂ (λ row d. row ++ (d ∷ [])) (bits_xor k (a / 2) (b / 2)) (below_two (a % 2) (b % 2) (omega arith) (omega arith))
    ∙ sym (added_push (bits k (a / 2)) (bits k (b / 2)) (eqb (a % 2) 1) (eqb (b % 2) 1) (length_bits k (a / 2) ∙ sym (length_bits k (b / 2))))
