-- The digits of a depth, and the depth of digits.
use Rattle.std.proofs.Common.{◌≡◌, ℕ, ◌+◌, ◌*◌, ◌/◌, ◌%◌, ◌<◌, ◌≤◌, List, [], ◌∷◌, Some, ap, ◌∙◌, inl, inr, arith}
use Rattle.std.proofs.lemmas.Bool.Decides.{nat_tests}
use Rattle.front.specs.Reading.{value, figures, reading_of}
use Rattle.front.specs.Written.{Writes}

read_back : (a b c n : ℕ) → a < 10 → b < 10 → c < 10 → a * 100 + b * 10 + c ≡ n → figures (0x30 + a) (0x30 + b) 0x2E (0x30 + c) ≡ Some n
read_back a b c n ha hb hc e = grind (arith, nat_tests)

-- digits, a point and a digit
record Figures (tens units point tenth n : ℕ) : Type 0 where
  pub tens_low : 0x30 ≤ tens
  pub tens_high : tens ≤ 0x39
  pub units_low : 0x30 ≤ units
  pub units_high : units ≤ 0x39
  pub is_point : point ≡ 0x2E
  pub tenth_low : 0x30 ≤ tenth
  pub tenth_high : tenth ≤ 0x39
  pub number : value tens * 100 + value units * 10 + value tenth ≡ n

as_figures : (a b p c n : ℕ) → figures a b p c ≡ Some n → Figures a b p c n
as_figures a b p c n e = record {
  tens_low = grind (arith, nat_tests);
  tens_high = grind (arith, nat_tests);
  units_low = grind (arith, nat_tests);
  units_high = grind (arith, nat_tests);
  is_point = grind (arith, nat_tests);
  tenth_low = grind (arith, nat_tests);
  tenth_high = grind (arith, nat_tests);
  number = grind (arith, nat_tests);
}

pub writes : (n : ℕ) (text : List ℕ) → reading_of text ≡ Some n → Writes n text
writes n [] e = cc
writes n (a ∷ []) e = cc
writes n (a ∷ b ∷ []) e = cc
writes n (b ∷ p ∷ c ∷ []) e =
    let f = as_figures 0x30 b p c n e in
    let units : b ≡ 0x30 + n / 10 = omega arith in
    let point : p ≡ 0x2E = f.is_point in
    let tenth : c ≡ 0x30 + n % 10 = omega arith in
    inl (omega arith, cc)
writes n (a ∷ b ∷ p ∷ c ∷ []) e =
    let f = as_figures a b p c n e in
    let tens : a ≡ 0x30 + n / 100 = omega arith in
    let units : b ≡ 0x30 + n / 10 % 10 = omega arith in
    let point : p ≡ 0x2E = f.is_point in
    let tenth : c ≡ 0x30 + n % 10 = omega arith in
    inr (omega arith, cc)
writes n (a ∷ b ∷ c ∷ d ∷ x ∷ more) e = cc

pub reads : (n : ℕ) (text : List ℕ) → Writes n text → reading_of text ≡ Some n
reads n text (inl (h, e)) = ap reading_of e ∙ read_back 0 (n / 10) (n % 10) n (omega arith) (omega arith) (omega arith) (omega arith)
reads n text (inr (h, e)) = ap reading_of e ∙ read_back (n / 100) (n / 10 % 10) (n % 10) n (omega arith) (omega arith) (omega arith) (omega arith)
