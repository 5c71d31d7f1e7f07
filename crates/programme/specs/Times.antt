-- What a reading's time looks like: 6:00, 06:00 or 06:00:00, alone or behind a date.
use Rattle.std.specs.Prelude.{ℕ, Bool, false, cond, not, ◌&&◌, ◌||◌, List, [], ◌∷◌, length, drop, ◌==◌, nat_lt, slice_index, slice_index_or}
use Rattle.programme.specs.Numerals.{is_digit}
use Rattle.programme.specs.Rows.{is_space}

-- two digits below 24 ('2' is 50 and '4' is 52)
abbrev pub is_hour : ℕ → ℕ → Bool
is_hour tens units = is_digit tens && (is_digit units && (nat_lt tens 50 || (tens == 50 && nat_lt units 52)))

-- two digits below 60, minutes or seconds ('6' is 54)
abbrev pub is_sixtieth : ℕ → ℕ → Bool
is_sixtieth tens units = is_digit tens && (is_digit units && nat_lt tens 54)

-- minutes, and seconds behind a colon, 58, if any
abbrev pub is_past_hour : List ℕ → Bool
is_past_hour s =
    cond (length s == 2) (is_sixtieth (slice_index s 0) (slice_index s 1))
    (length s == 5 && (is_sixtieth (slice_index s 0) (slice_index s 1) && (slice_index s 2 == 58 && is_sixtieth (slice_index s 3) (slice_index s 4))))

-- an hour of one digit or of two, a colon and what is past the hour
abbrev pub is_clock : List ℕ → Bool
is_clock s =
    cond (slice_index s 1 == 58) (is_digit (slice_index s 0) && is_past_hour (drop 2 s))
    (slice_index s 2 == 58 && (is_hour (slice_index s 0) (slice_index s 1) && is_past_hour (drop 3 s)))

-- a date word ends at a space or at a T, 84, and a clock's time stands behind
abbrev pub dated_from : List ℕ → Bool
dated_from [] = false
dated_from (b ∷ bs) = cond (is_space b) (is_clock bs) ((b == 84 && is_clock bs) || dated_from bs)

abbrev pub is_dated : List ℕ → Bool
is_dated s = not (is_space (slice_index_or s 0 32)) && dated_from (drop 1 s)

abbrev pub is_time : List ℕ → Bool
is_time s = is_clock s || is_dated s
