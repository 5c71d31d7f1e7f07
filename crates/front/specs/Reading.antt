-- What the front reads in a text: tenths of a metre, if the whole text is one or two digits, a point and one digit.
use Rattle.std.specs.Prelude.{ℕ, ◌+◌, ◌-◌, ◌*◌, cond, ◌&&◌, List, [], ◌∷◌, Some, None, ◌==◌, Option}
use Rattle.std.specs.Char.{is_ascii_digit}

-- of a digit
abbrev pub value : ℕ → ℕ
value b = b - 0x30

-- two digits, a point and one digit, in tenths
abbrev pub figures : ℕ → ℕ → ℕ → ℕ → Option ℕ
figures tens units point tenth =
    cond (is_ascii_digit tens && (is_ascii_digit units && (point == 0x2E && is_ascii_digit tenth)))
    (Some (value tens * 100 + value units * 10 + value tenth)) None

-- one digit before the point stands for 0 and that digit; in all else it reads nothing
abbrev pub reading_of : List ℕ → Option ℕ
reading_of [] = None
reading_of (a ∷ []) = None
reading_of (a ∷ b ∷ []) = None
reading_of (units ∷ point ∷ tenth ∷ []) = figures 0x30 units point tenth
reading_of (tens ∷ units ∷ point ∷ tenth ∷ []) = figures tens units point tenth
reading_of (a ∷ b ∷ c ∷ d ∷ e ∷ more) = None
