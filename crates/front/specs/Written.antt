-- How a depth is written for the front.
use Rattle.std.specs.Prelude.{◌≡◌, ℕ, ◌+◌, ◌/◌, ◌%◌, ◌<◌, ◌⊎◌, List, [], ◌∷◌, Some}
use Rattle.front.specs.Reading.{reading_of}

-- n tenths of a metre, with one digit before the point and with two
abbrev pub short : ℕ → List ℕ
short n = (0x30 + n / 10) ∷ 0x2E ∷ (0x30 + n % 10) ∷ []

abbrev pub long : ℕ → List ℕ
long n = (0x30 + n / 100) ∷ (0x30 + n / 10 % 10) ∷ 0x2E ∷ (0x30 + n % 10) ∷ []

abbrev pub Writes : ℕ → List ℕ → Type 0
Writes n text = ((n < 100) × (text ≡ short n)) ⊎ ((n < 1000) × (text ≡ long n))

-- the front reads n in just the texts that write n
abbrev pub ReadsAsWritten : Type 0
ReadsAsWritten =
    (n : ℕ) (text : List ℕ) → (Writes n text → reading_of text ≡ Some n) × (reading_of text ≡ Some n → Writes n text)
