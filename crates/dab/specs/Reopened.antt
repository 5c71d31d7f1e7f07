-- A frame as it is written comes apart again, whatever the check is.
use Rattle.std.specs.Prelude.{◌≡◌, ℕ, ◌+◌, ◌-◌, ◌*◌, ◌/◌, ◌%◌, ◌<◌, ◌≤◌, Bool, true, false, not, List, [], ◌∷◌, ◌++◌, length, take, drop, ◌==◌, nat_eq, nat_le, slice_index, refl}
use Rattle.std.proofs.Math.Path.{sym, ap}
use Rattle.std.proofs.Common.{◌∙◌, length-append}
use native.Mathlib.Omega.{arith}
use Rattle.std.proofs.lemmas.List.{take_at, get_or-append-add, get_or_at, length-drop, get_or-drop}
use Rattle.std.proofs.lemmas.Bool.{and_from, and_parts, eq-eqb, le-leb, leb-true, cond-true, cond-false}
use Rattle.label.specs.declared.refusal.Refusal.TheVariants.{WrongSize, WrongCheck}
use Rattle.carrier.specs.Fields.{octets}
use Rattle.carrier.specs.Meaning.{refused}
use Rattle.dab.specs.Taking.{State, take_body, right_size, checked_part, check_part, data_part, step_by}

-- prefix and data with any check behind them
abbrev pub framed_by : (List ℕ → ℕ) → List ℕ → List ℕ
framed_by check body = body ++ octets 2 (check body)

rejoined : (c : ℕ) → c < 65536 → c ≡ c / 256 % 256 * 256 + c % 256
rejoined c h = omega arith

module _ (check : List ℕ → ℕ) (small : (b : List ℕ) → check b < 65536) (one two : ℕ) (d : List ℕ) (some : 1 ≤ length d) (few : length d ≤ 16) where
  abbrev body : List ℕ
  body = one ∷ (two ∷ d)

  abbrev high : ℕ
  high = check (one ∷ (two ∷ d)) / 256 % 256

  abbrev low : ℕ
  low = check (one ∷ (two ∷ d)) % 256

  abbrev f : List ℕ
  f = framed_by check (one ∷ (two ∷ d))

  pub framed_long : length (framed_by check (one ∷ (two ∷ d))) ≡ length d + 4
  framed_long = omega (arith, length-append d (high ∷ (low ∷ [])))

  checked_is : checked_part f ≡ body
  checked_is = let n = framed_long in let e : length f - 2 ≡ length body = omega arith in ap (λ k. take k f) e ∙ take_at body (high ∷ (low ∷ [])) (length body) refl

  check_is : check_part f ≡ high * 256 + low
  check_is =
      let n = framed_long in
      let e : length f - 2 ≡ length body = omega arith in
      let g : length f - 1 ≡ length body + 1 = omega arith in
      ap (λ k. k * 256 + slice_index f (length f - 1)) (ap (λ k. slice_index f k) e ∙ get_or_at body high (low ∷ []) 0 (length body) refl)
      ∙ ap (λ k. high * 256 + k) (ap (λ k. slice_index f k) g ∙ get_or-append-add body (high ∷ (low ∷ [])) 1 0)

  data_is : data_part f ≡ d
  data_is = let n = framed_long in let e : length f - 4 ≡ length d = omega arith in ap (λ k. take k (d ++ (high ∷ (low ∷ [])))) e ∙ take_at d (high ∷ (low ∷ [])) (length d) refl

  pub opened : (s : State) → step_by check s (framed_by check (one ∷ (two ∷ d))) ≡ take_body s one two d
  unfolding step_by
  opened s =
      let n = framed_long in
      cond-false (not (right_size (length f))) (refused WrongSize) _ (ap not (and_from _ _ (le-leb 5 (length f) (omega arith)) (le-leb (length f) 20 (omega arith))))
      ∙ cond-false (not (check (checked_part f) == check_part f)) (refused WrongCheck) (take_body s one two (data_part f))
      (ap not (eq-eqb (check (checked_part f)) (check_part f) (ap check checked_is ∙ rejoined (check body) (small body) ∙ sym check_is)))
      ∙ ap (take_body s one two) data_is

-- a frame by the rest r behind its two prefix bytes, of which the first n are data
module _ (check : List ℕ → ℕ) (s : State) (f : List ℕ) where
  pub wrong_size : right_size (length f) ≡ false → step_by check s f ≡ refused WrongSize
  unfolding step_by
  wrong_size h = cond-true (not (right_size (length f))) (refused WrongSize) _ (ap not h)

  module _ (right : right_size (length f) ≡ true) (r : List ℕ) (e : r ≡ drop 2 f) (n : ℕ) (m : n ≡ length r - 2) where
    five : 5 ≤ length f
    five = leb-true 5 (length f) (and_parts (nat_le 5 (length f)) (nat_le (length f) 20) right).0

    abbrev there : Bool
    there = check (take ((n + 2) - 0) f) == slice_index r n * 256 + slice_index r (n + 1)

    same_test : nat_eq (check (checked_part f)) (check_part f) ≡ there
    same_test =
        let l : length r ≡ length f - 2 = ap length e ∙ length-drop 2 f in
        let z = five in
        let k : length f - 2 ≡ (n + 2) - 0 = omega arith in
        let a : length f - 2 ≡ 2 + n = omega arith in
        let b : length f - 1 ≡ 2 + (n + 1) = omega arith in
        let g = get_or-drop 2 f n 0 in
        let h = get_or-drop 2 f (n + 1) 0 in
        cc

    pub wrong_check : there ≡ false → step_by check s f ≡ refused WrongCheck
    unfolding step_by
    wrong_check h =
        cond-false (not (right_size (length f))) (refused WrongSize) _ (ap not right)
        ∙ cond-true (not (check (checked_part f) == check_part f)) (refused WrongCheck) _ (ap not (same_test ∙ h))

    pub opens : there ≡ true → step_by check s f ≡ take_body s (slice_index f 0) (slice_index f 1) (take (n - 0) r)
    unfolding step_by
    opens h =
        let l : length r ≡ length f - 2 = ap length e ∙ length-drop 2 f in
        let z = five in
        let k : length f - 4 ≡ n - 0 = omega arith in
        let d : data_part f ≡ take (n - 0) r = cc in
        cond-false (not (right_size (length f))) (refused WrongSize) _ (ap not right)
        ∙ cond-false (not (check (checked_part f) == check_part f)) (refused WrongCheck) _ (ap not (same_test ∙ h))
        ∙ ap (take_body s (slice_index f 0) (slice_index f 1)) d
