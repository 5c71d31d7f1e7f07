-- The check of a frame: its bits are divided as a polynomial whose coefficients are bits, and the remainder is complemented.
use Rattle.std.specs.Prelude.{ℕ, zero, suc, ◌+◌, ◌-◌, ◌/◌, ◌%◌, ◌^◌, Bool, true, false, cond, List, [], ◌∷◌, ◌++◌, length, drop, replicate, ◌==◌}
use Rattle.std.specs.Bool.{xor}

-- the k low bits of a number, the high one first
abbrev pub bits : ℕ → ℕ → List Bool
bits zero n = []
bits (suc k) n = bits k (n / 2) ++ ((n % 2 == 1) ∷ [])

-- the number that a row of bits writes, the high one first
abbrev pub number : List Bool → ℕ
number [] = 0
number (b ∷ row) = cond b (2 ^ length row) 0 + number row

-- the bits of a row of bytes
abbrev pub bits_of : List ℕ → List Bool
bits_of [] = []
bits_of (b ∷ bytes) = bits 8 b ++ bits_of bytes

-- two rows added from their fronts on, bit by bit and with no carry; to take one off the other is the same
abbrev pub added : List Bool → List Bool → List Bool
added [] ys = ys
added (x ∷ xs) [] = x ∷ xs
added (x ∷ xs) (y ∷ ys) = xor x y ∷ added xs ys

-- the divisor, x^16 + x^12 + x^5 + 1
abbrev pub divisor : List Bool
divisor = bits 17 (2 ^ 16 + 2 ^ 12 + 2 ^ 5 + 1)

-- k steps of long division: where a one stands in front the divisor is taken off, and then the zero in front goes
abbrev pub divided : ℕ → List Bool → List Bool
divided zero row = row
divided (suc k) [] = []
divided (suc k) (false ∷ row) = divided k row
divided (suc k) (true ∷ row) = divided k (drop 1 (added divisor (true ∷ row)))

-- the remainder is what stands there once sixteen bits are left
abbrev pub remainder : List Bool → List Bool
remainder row = divided (length row - 16) row

-- what is divided: the bytes' bits with sixteen zeros behind them, and the first sixteen of that row complemented
abbrev pub dividend : List ℕ → List Bool
dividend bytes = added (replicate 16 true) (bits_of bytes ++ replicate 16 false)

-- the check is the complement of the remainder
abbrev pub check_of : List ℕ → ℕ
check_of bytes = 65535 - number (remainder (dividend bytes))
