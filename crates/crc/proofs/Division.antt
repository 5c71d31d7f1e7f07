-- The register divides: its steps are those of the long division, with the register's bits added to the front of what is left.
use Rattle.std.proofs.Common.{◌≡◌, ℕ, zero, suc, ◌+◌, ◌-◌, ◌*◌, ◌<◌, ◌≤◌, Bool, true, false, ltb, List, [], ◌∷◌, ◌++◌, length, get_or, fold, replicate, sym, refl, ap, ◌∙◌, ap₂, ⊎_elim, le_trans, add-suc, suc-add, zero-add, arith}
use mathlib.Core.Bool.{xor}
use native.Mathlib.Nat.{le-suc}
use lib.Bits.{bit_xor, xor_comm, xor_lt}
use Rattle.std.proofs.lemmas.List.{length-append, append_assoc, append-nil}
use Rattle.std.proofs.lemmas.Bool.{cases_lt, lt-ltb, le-ltb, cond-true, cond-false}
use Rattle.crc.specs.Check.{bits, number, bits_of, added, divided, remainder, dividend}
use Rattle.crc.specs.Register.{stepped, steps, byte_in}
use Rattle.crc.proofs.Rows.{added_assoc, padded, onto_zeros, number_bits, front_zero, front_one, doubled, shifted, bits_xor, length_added}

low : (c : ℕ) → c < 32768 → stepped c ≡ c * 2
low c h = cond-true (ltb c 32768) (c * 2) (bit_xor ((c - 32768) * 2) 4129) (lt-ltb c 32768 h)

high : (c : ℕ) → 32768 ≤ c → stepped c ≡ bit_xor ((c - 32768) * 2) 4129
high c h = cond-false (ltb c 32768) (c * 2) (bit_xor ((c - 32768) * 2) 4129) (le-ltb c 32768 h)

stepped_lt : (c : ℕ) → c < 65536 → stepped c < 65536
stepped_lt c h =
    ⊎_elim (λ l. let e = low c l in omega arith)
    (λ l. let e = high c l in let b : bit_xor ((c - 32768) * 2) 4129 < 65536 = xor_lt 16 ((c - 32768) * 2) 4129 (omega arith) (omega arith) in omega arith)
    (cases_lt c 32768)

steps_lt : (k c : ℕ) → c < 65536 → steps k c < 65536
steps_lt zero c h = h
steps_lt (suc k) c h = stepped_lt (steps k c) (steps_lt k c h)

-- the register with a zero in front and with a one
step_zero : (k c : ℕ) (rest : List Bool) → c < 32768 → 16 ≤ length rest
    → divided (suc k) (added (bits 16 c) (false ∷ rest)) ≡ divided k (added (bits 16 (c * 2)) rest)
unfolding xor
step_zero k c rest h g =
    ap (λ row. divided (suc k) (added row (false ∷ rest))) (front_zero 15 c h)
    ∙ ap (divided k) (sym (ap (λ row. added row rest) (doubled 15 c) ∙ padded (bits 15 c) 1 rest g))

step_one : (k c : ℕ) (rest : List Bool) → c < 32768 → 16 ≤ length rest
    → divided (suc k) (added (bits 16 (32768 + c)) (false ∷ rest)) ≡ divided k (added (bits 16 (bit_xor (c * 2) 4129)) rest)
unfolding xor
step_one k c rest h g =
    ap (λ row. divided (suc k) (added row (false ∷ rest))) (front_one 15 c h)
    ∙ ap (λ row. divided k (added (bits 16 4129) row)) (sym (ap (λ row. added row rest) (doubled 15 c) ∙ padded (bits 15 c) 1 rest g))
    ∙ ap (divided k) (sym (added_assoc (bits 16 4129) (bits 16 (c * 2)) rest))
    ∙ ap (λ row. divided k (added row rest)) (sym (bits_xor 16 4129 (c * 2)) ∙ ap (bits 16) (xor_comm 4129 (c * 2)))

-- one step of the register is one of the division
one_step : (k c : ℕ) (rest : List Bool) → c < 65536 → 16 ≤ length rest
    → divided (suc k) (added (bits 16 c) (false ∷ rest)) ≡ divided k (added (bits 16 (stepped c)) rest)
one_step k c rest h g =
    ⊎_elim
    (λ l. step_zero k c rest l g ∙ ap (λ n. divided k (added (bits 16 n) rest)) (sym (low c l)))
    (λ l.
    let e : c ≡ 32768 + (c - 32768) = omega arith in
    ap (λ n. divided (suc k) (added (bits 16 n) (false ∷ rest))) e
    ∙ step_one k (c - 32768) rest (omega arith) g
    ∙ ap (λ n. divided k (added (bits 16 n) rest)) (sym (high c l)))
    (cases_lt c 32768)

zeros_then : (n : ℕ) (rest : List Bool) → replicate (suc n) false ++ rest ≡ replicate n false ++ (false ∷ rest)
zeros_then zero rest = refl
zeros_then (suc n) rest = ap (λ row. false ∷ row) (zeros_then n rest)

-- and n steps are n, at as many zeros
all_steps : (n k c : ℕ) (rest : List Bool) → c < 65536 → 16 ≤ length rest
    → divided (n + k) (added (bits 16 c) (replicate n false ++ rest)) ≡ divided k (added (bits 16 (steps n c)) rest)
all_steps zero k c rest h g = ap (λ m. divided m (added (bits 16 c) rest)) (zero-add k)
all_steps (suc n) k c rest h g =
    ap₂ (λ m row. divided m (added (bits 16 c) row)) (suc-add n k ∙ sym (add-suc n k)) (zeros_then n rest)
    ∙ all_steps n (suc k) c (false ∷ rest) h (le_trans g (le-suc (length rest)))
    ∙ one_step k (steps n c) rest (steps_lt n c h) g

front_lt : (c b : ℕ) → c < 65536 → b < 256 → bit_xor c (b * 256) < 65536
front_lt c b h g = xor_lt 16 c (b * 256) h (omega arith)

byte_in_lt : (c b : ℕ) → c < 65536 → b < 256 → byte_in c b < 65536
byte_in_lt c b h g = steps_lt 8 (bit_xor c (b * 256)) (front_lt c b h g)

-- a byte in front of what is left
one_byte : (k c b : ℕ) (rest : List Bool) → c < 65536 → b < 256 → 16 ≤ length rest
    → divided (8 + k) (added (bits 16 c) (bits 8 b ++ rest)) ≡ divided k (added (bits 16 (byte_in c b)) rest)
one_byte k c b rest h g l =
    let e : added (bits 16 (bit_xor c (b * 256))) (replicate 8 false ++ rest) ≡ added (bits 16 c) (bits 8 b ++ rest)
    = ap (λ row. added row (replicate 8 false ++ rest)) (bits_xor 16 c (b * 256) ∙ ap (added (bits 16 c)) (shifted 8 8 b))
    ∙ added_assoc (bits 16 c) (bits 8 b ++ replicate 8 false) (replicate 8 false ++ rest)
    ∙ ap (added (bits 16 c)) (padded (bits 8 b) 8 (replicate 8 false ++ rest) (omega arith) ∙ onto_zeros (bits 8 b) rest) in
    ap (divided (8 + k)) (sym e) ∙ all_steps 8 k (bit_xor c (b * 256)) rest (front_lt c b h g) l

-- what the division leaves, from a register c with these bytes still to come
abbrev pub from : ℕ → List ℕ → List Bool
from c bytes = divided (length (bits_of bytes)) (added (bits 16 c) (bits_of bytes ++ replicate 16 false))

pub from_byte : (c b : ℕ) (bytes : List ℕ) → c < 65536 → b < 256 → from c (b ∷ bytes) ≡ from (byte_in c b) bytes
from_byte c b bytes h g =
    let n : length (bits 8 b ++ bits_of bytes) ≡ 8 + length (bits_of bytes) = length-append (bits 8 b) (bits_of bytes) in
    let l : 16 ≤ length (bits_of bytes ++ replicate 16 false) = simp length-append (omega arith) in
    ap₂ (λ k row. divided k (added (bits 16 c) row)) n (append_assoc (bits 8 b) (bits_of bytes) (replicate 16 false))
    ∙ one_byte (length (bits_of bytes)) c b (bits_of bytes ++ replicate 16 false) h g l

-- with no byte left the register is the remainder
pub from_none : (c : ℕ) → c < 65536 → number (from c []) ≡ c
from_none c h = ap number (onto_zeros (bits 16 c) [] ∙ append-nil (bits 16 c)) ∙ number_bits 16 c h

-- and it starts with ones
pub from_ones : (bytes : List ℕ) → from 65535 bytes ≡ remainder (dividend bytes)
from_ones bytes =
    let row = bits_of bytes ++ replicate 16 false in
    let l : length row ≡ length (bits_of bytes) + 16 = length-append (bits_of bytes) (replicate 16 false) in
    let d : length (dividend bytes) ≡ length row = length_added (replicate 16 true) row (omega arith) in
    let n : length (bits_of bytes) ≡ length (dividend bytes) - 16 = omega arith in
    ap (λ k. divided k (dividend bytes)) n

-- so the register takes in byte after byte, and starts with ones
folded : (bytes : List ℕ) (c : ℕ) → c < 65536 → ((k : ℕ) → get_or bytes k 0 < 256) → fold byte_in c bytes ≡ number (from c bytes)
folded [] c h all = sym (from_none c h)
folded (b ∷ bytes) c h all =
    folded bytes (byte_in c b) (byte_in_lt c b h (all 0)) (λ k. all (suc k)) ∙ ap number (sym (from_byte c b bytes h (all 0)))

pub taken_in : (bytes : List ℕ) → ((k : ℕ) → get_or bytes k 0 < 256) → fold byte_in 65535 bytes ≡ number (remainder (dividend bytes))
taken_in bytes all = folded bytes 65535 (omega arith) all ∙ ap number (from_ones bytes)
