-- Which lines ask for something: those are answered, each by a line.
use Rattle.std.specs.Prelude.{◌≡◌, ℕ, ◌-◌, ◌⊎◌, ◌==◌, cond, List, length, take, slice_index, All}

-- a line without the carriage return that may end it
abbrev pub without_return : List ℕ → List ℕ
without_return line = cond (slice_index line (length line - 1) == 13) (take (length line - 1) line) line

-- it is a remark, behind `#`, or has nothing but spaces
abbrev pub AsksNothing : List ℕ → Type 0
AsksNothing line = (slice_index line 0 ≡ 35) ⊎ All (λ b. b ≡ 32) line
