-- Parts of a row of bytes: words, fields, and what stands around them.
use Rattle.std.specs.Prelude.{ℕ, suc, ◌-◌, Bool, cond, not, ◌&&◌, List, [], ◌∷◌, length, take, drop, ◌==◌, nat_le, slice_index}
use Rattle.std.specs.List.{prefix_len, suffix_len}

abbrev pub is_space : ℕ → Bool
is_space b = b == 32

-- any byte but a space
abbrev pub is_other : ℕ → Bool
is_other b = not (b == 32)

abbrev pub trim_front : List ℕ → List ℕ
trim_front s = drop (prefix_len is_space s) s

abbrev pub trim_end : List ℕ → List ℕ
trim_end s = take (length s - suffix_len is_space s) s

-- without the spaces at both ends
abbrev pub trimmed : List ℕ → List ℕ
trimmed s = trim_end (trim_front s)

abbrev pub is_blank : List ℕ → Bool
is_blank s = prefix_len is_space s == length s

-- up to the first space
abbrev pub word_of : List ℕ → List ℕ
word_of s = take (prefix_len is_other s) s

abbrev pub behind_word : List ℕ → List ℕ
behind_word s = trimmed (drop (prefix_len is_other s) s)

-- a carriage return at the end is no part of a line
abbrev pub without_return : List ℕ → List ℕ
without_return s = cond (slice_index s (length s - 1) == 13) (take (length s - 1) s) s

-- without one pair of double quotes
abbrev pub unquoted : List ℕ → List ℕ
unquoted s =
    cond (nat_le 2 (length s) && (slice_index s 0 == 34 && slice_index s (length s - 1) == 34)) (take (length s - 2) (drop 1 s)) s

abbrev pub field : List ℕ → List ℕ
field s = unquoted (trimmed s)

-- within double quotes, 34, or not, behind one more byte
abbrev pub turned : Bool → ℕ → Bool
turned quoted b = cond (b == 34) (not quoted) quoted

-- how many bytes stand before the first b outside quotes
abbrev pub outside : ℕ → Bool → List ℕ → ℕ
outside b quoted [] = 0
outside b quoted (x ∷ xs) = cond (x == b && not quoted) 0 (suc (outside b (turned quoted x) xs))

-- a slash, 47, between two spaces
abbrev pub slash_first : List ℕ → Bool
slash_first s = slice_index s 0 == 32 && (slice_index s 1 == 47 && slice_index s 2 == 32)

-- how many bytes stand before the first such slash
abbrev pub slash_at : List ℕ → ℕ
slash_at [] = 0
slash_at (b ∷ bs) = cond (slash_first (b ∷ bs)) 0 (suc (slash_at bs))
