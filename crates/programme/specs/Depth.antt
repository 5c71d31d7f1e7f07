-- What depth a row of bytes says, in tenths of a metre, or why it says none.
use Rattle.std.specs.Prelude.{ℕ, ◌*◌, ◌/◌, ◌^◌, Bool, true, false, cond, not, ◌&&◌, ◌||◌, List, [], ◌∷◌, ◌++◌, length, take, drop, Some, None, Ok, Err, Option, Result, ◌==◌, nat_lt}
use Rattle.std.specs.List.{prefix_len}
use Rattle.programme.specs.declared.number.Number.{Number}
use Rattle.programme.specs.declared.fault.Fault.{Fault}
use Rattle.programme.specs.declared.fault.Fault.TheVariants.{NoDepth, BelowZero, TooDeep}
use Rattle.programme.specs.Numerals.{is_digit, all_digits, numeral}

-- a decimal point, 46, or a decimal comma, 44
abbrev pub is_mark : ℕ → Bool
is_mark b = b == 46 || b == 44

-- the digits before and behind the decimal mark; the mark may be absent, or stand last
abbrev pub behind_whole : List ℕ → List ℕ → Option (List ℕ × List ℕ)
behind_whole whole [] = Some (whole, [])
behind_whole whole (m ∷ ds) = cond (is_mark m && all_digits ds) (Some (whole, ds)) None

abbrev pub number_of : List ℕ → Option (List ℕ × List ℕ)
number_of s = cond (prefix_len is_digit s == 0) None (behind_whole (take (prefix_len is_digit s) s) (drop (prefix_len is_digit s) s))

-- a number of the program by its two rows
abbrev pub parts_of : Number → List ℕ × List ℕ
parts_of n = (n.whole.now, n.fraction.now)

-- whole tenths of a metre: the quotient cuts what is left, so that it never says more than was measured
abbrev pub tenths_of : List ℕ → List ℕ → ℕ
tenths_of whole fraction = numeral (whole ++ fraction) * 10 / 10 ^ length fraction

-- below 100 metres
abbrev pub shallow : ℕ → Result ℕ Fault
shallow tenths = cond (nat_lt tenths 1000) (Ok tenths) (Err TooDeep)

-- behind a minus sign only zero is no depth below zero
abbrev pub judged : Bool → Option (List ℕ × List ℕ) → Result ℕ Fault
judged minus None = Err NoDepth
judged minus (Some (whole, fraction)) =
    cond (minus && not (numeral (whole ++ fraction) == 0)) (Err BelowZero) (shallow (tenths_of whole fraction))

-- a sign may stand in front, '-' 45 or '+' 43
abbrev pub depth_of : List ℕ → Result ℕ Fault
depth_of [] = Err NoDepth
depth_of (b ∷ bs) =
    cond (b == 45) (judged true (number_of bs)) (cond (b == 43) (judged false (number_of bs)) (judged false (number_of (b ∷ bs))))
