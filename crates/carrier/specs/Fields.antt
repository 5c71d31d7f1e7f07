-- How the bits of a frame are laid out: fields of so many bits, the first one highest, then bytes, the high one first.
use Rattle.std.specs.Prelude.{ℕ, zero, suc, ◌+◌, ◌*◌, ◌/◌, ◌%◌, ◌^◌, Bool, cond, List, [], ◌∷◌, ◌++◌}

pub record Field : Type 0 where
  pub width : ℕ
  pub value : ℕ

-- a field of w bits
abbrev pub field : ℕ → ℕ → Field
field w v = record { width = w; value = v }

-- a field of one bit
abbrev pub flag : Bool → Field
flag b = field 1 (cond b 1 0)

abbrev pub with_fields : ℕ → List Field → ℕ
with_fields n [] = n
with_fields n (f ∷ fs) = with_fields (n * 2 ^ f.width + f.value) fs

-- the fields as one number
abbrev pub word : List Field → ℕ
word [] = 0
word (f ∷ fs) = with_fields f.value fs

-- the low k bytes of a number, the high one first
abbrev pub octets : ℕ → ℕ → List ℕ
octets zero n = []
octets (suc k) n = octets k (n / 256) ++ (n % 256 ∷ [])
