-- Digits, and the number that a row of digits writes.
use Rattle.std.specs.Prelude.{ℕ, ◌+◌, ◌-◌, ◌*◌, Bool, ◌&&◌, List, length, fold, ◌==◌, nat_le}
use Rattle.std.specs.List.{prefix_len}

-- '0' is 48 and '9' is 57
abbrev pub is_digit : ℕ → Bool
is_digit b = nat_le 48 b && nat_le b 57

abbrev pub all_digits : List ℕ → Bool
all_digits bs = prefix_len is_digit bs == length bs

-- each digit counts ten times as much as the one behind it
abbrev pub numeral : List ℕ → ℕ
numeral bs = fold (λ n b. n * 10 + (b - 48)) 0 bs
