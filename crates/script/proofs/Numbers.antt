-- What std reads as a number is what the specification says.
use Rattle.std.proofs.Common.{◌≡◌, ℕ, ◌+◌, ◌*◌, ◌^◌, ◌<◌, ◌≤◌, ◌⊎◌, ◌≢◌, inl, inr, cond, nat_lt, Bool, ◌==◌, List, [], ◌∷◌, length, get_or, Some, None, Ok, Err, Option, Result, sym, refl, ap, subst, ◌∙◌, arith}
use Rattle.std.proofs.lemmas.Bool.{cases_lt, lt-ltb, le-ltb, cond-true, cond-false, cases_eq, eq-eqb, ne_eqb}
use Rattle.std.proofs.lemmas.Bool.Decides.{nat_tests}
use Rattle.std.proofs.lemmas.Str.Parse.{without_leading_plus_none}
use Rattle.std.specs.Char.{digit_value}
use Rattle.std.specs.Option.{ok_or}
use Rattle.std.specs.Result.{result_ok, OkIff, IsErrAnd}
use Rattle.script.specs.declared.fault.Fault.{Fault}
use Rattle.script.specs.declared.fault.Fault.TheVariants.{Wrong}
use Rattle.std.specs.Str.Parse.{AllDigits, IsNumeral, digits_value_after, digits_value, ParsesUnsigned}
use Rattle.script.specs.Digits.{and_then, digit_in, written, fitting, number_in}

digit_same : (base b : ℕ) → base ≤ 16 → digit_in base b ≡ cond (nat_lt (digit_value b) base) (Some (digit_value b)) None
digit_same base b h = grind (arith, nat_tests)

-- the digits of a base write std's number, and nothing else writes one
abbrev Writes : ℕ → ℕ → List ℕ → Type 0
Writes base n ds = (AllDigits base ds × (written base n ds ≡ Some (digits_value_after base n ds))) ⊎ ((AllDigits base ds → ⊥) × (written base n ds ≡ None))

one_more : (base n b : ℕ) (ds : List ℕ) → base ≤ 16 → digit_value b < base → Writes base (n * base + digit_value b) ds → Writes base n (b ∷ ds)
one_more base n b ds h lt w =
    let d : digit_in base b ≡ Some (digit_value b) = digit_same base b h ∙ cond-true _ (Some (digit_value b)) None (lt-ltb (digit_value b) base lt) in
    let step = ap (λ (o : Option ℕ). and_then o (λ d. written base (n * base + d) ds)) d in
    elim w [
      | inl (all, e) ↦ inl ((lt, all), step ∙ e)
      | inr (not_all, e) ↦ inr ((λ x. not_all x.1), step ∙ e)
    ]

writes : (base n : ℕ) (ds : List ℕ) → base ≤ 16 → Writes base n ds
writes base n [] h = inl (tt, refl)
writes base n (b ∷ ds) h =
    elim (cases_lt (digit_value b) base) [
      | inl lt ↦ one_more base n b ds h lt (writes base (n * base + digit_value b) ds h)
      | inr ge ↦
          let d : digit_in base b ≡ None = digit_same base b h ∙ cond-false _ (Some (digit_value b)) None (le-ltb (digit_value b) base ge) in
          inr ((λ x. omega arith), ap (λ (o : Option ℕ). and_then o (λ d. written base (n * base + d) ds)) d)
    ]

pub fits : (n : ℕ) → n < 2 ^ 32 → fitting n ≡ Some n
fits n h = cond-true _ (Some n) None (lt-ltb n (2 ^ 32) h)

pub fits_not : (n : ℕ) → 2 ^ 32 ≤ n → fitting n ≡ None
fits_not n h = cond-false _ (Some n) None (le-ltb n (2 ^ 32) h)

some_digits : (base : ℕ) (ds : List ℕ) (o : Option ℕ) → (length ds ≡ 0 → ⊥) → written base 0 ds ≡ o → number_in base ds ≡ and_then o fitting
some_digits base ds o some e =
    cond-false _ None (and_then (written base 0 ds) fitting) (ne_eqb (length ds) 0 some) ∙ ap (λ (p : Option ℕ). and_then p fitting) e

unsigned : {E : Type 0} (base : ℕ) (ds : List ℕ) (r : Result ℕ E) → base ≤ 16 → OkIff r (IsNumeral base ds × (digits_value base ds < 2 ^ 32)) (digits_value base ds) → result_ok r ≡ number_in base ds
unsigned base ds (Ok x) h p =
    elim (writes base 0 ds h) [
      | inl (all, e) ↦ ap Some p.1 ∙ sym (some_digits base ds (Some (digits_value base ds)) (λ z. omega (arith, p.0.0.0)) e ∙ fits (digits_value base ds) p.0.1)
      | inr (not_all, e) ↦ absurd (not_all p.0.0.1)
    ]
unsigned base ds (Err x) h p =
    elim (cases_eq (length ds) 0) [
      | inl none ↦ sym (cond-true _ None (and_then (written base 0 ds) fitting) (eq-eqb (length ds) 0 none))
      | inr some ↦ elim (writes base 0 ds h) [
        | inl (all, e) ↦ elim (cases_lt (digits_value base ds) (2 ^ 32)) [
          | inl lt ↦ absurd (p ((omega (arith, some), all), lt))
          | inr ge ↦ sym (some_digits base ds (Some (digits_value base ds)) some e ∙ fits_not (digits_value base ds) ge)
        ]
        | inr (not_all, e) ↦ sym (some_digits base ds None some e)
      ]
    ]

no_plus : (ds : List ℕ) → ((rest : List ℕ) → ds ≡ 43 ∷ rest → ⊥) → get_or ds 0 0 ≢ 43
no_plus [] h e = absurd (omega arith)
no_plus (d ∷ ds) h e = h ds (ap (λ (x : ℕ). x ∷ ds) e)

-- std reads a sign too, which the console refuses
pub reads : {E : Type 0} (base : ℕ) (ds : List ℕ) (r : Result ℕ E) → base ≤ 16 → ((rest : List ℕ) → ds ≡ 43 ∷ rest → ⊥) → ParsesUnsigned 32 base ds r → result_ok r ≡ number_in base ds
reads base ds r h plain p =
    let P : List ℕ → Type 0 = λ xs. OkIff r (IsNumeral base xs × (digits_value base xs < 2 ^ 32)) (digits_value base xs) in
    unsigned base ds r h (subst P (without_leading_plus_none ds (no_plus ds plain)) p)

-- a flag is not read where its number is not
pub flag_err : (o : Option ℕ) (r : Result Bool Fault) (f : Fault) → ◌≡◌ {A = Result ℕ Fault} (Err f) (ok_or o Wrong) → IsErrAnd r (λ g. g ≡ f) → r ≡ ok_or (and_then o (λ n. Some (n == 1))) Wrong
flag_err o (Ok b) f e is = absurd is
flag_err None (Err g) f e is = let q : f ≡ Wrong = cc in ap Err (is ∙ q)
flag_err (Some n) (Err g) f e is = cc
