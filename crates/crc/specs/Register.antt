-- The division as a register does it: a number for the sixteen bits that stand in front. `Check` says what it is for.
use Rattle.std.specs.Prelude.{ℕ, zero, suc, ◌-◌, ◌*◌, cond, bit_xor, nat_lt}

-- one step: the front bit goes, a zero comes in behind, and where that bit was a one the divisor is taken off
abbrev pub stepped : ℕ → ℕ
stepped c = cond (nat_lt c 32768) (c * 2) (bit_xor ((c - 32768) * 2) 4129)

abbrev pub steps : ℕ → ℕ → ℕ
steps zero c = c
steps (suc k) c = stepped (steps k c)

-- a byte added to the eight front bits, and eight steps
abbrev pub byte_in : ℕ → ℕ → ℕ
byte_in c b = steps 8 (bit_xor c (b * 256))
