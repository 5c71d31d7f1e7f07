-- What the library reads and writes in hexadecimal is what the specification says.
use Rattle.std.proofs.Common.{◌≡◌, ℕ, zero, suc, Bool, slice_index, lit<, ◌+◌, ◌*◌, ◌/◌, ◌%◌, ◌<◌, ◌==◌, true, false, cond, ◌&&◌, inl, inr, List, [], ◌∷◌, ◌++◌, length, Some, None, Ok, Err, Option, Result, refl, sym, ap, subst, ◌∙◌, ◌⊎◌, arith}
use Rattle.std.proofs.lemmas.Bool.{and_parts, cases_eq, cases_lt, eq-eqb, eqb-true, ne_eqb}
use Rattle.std.proofs.lemmas.Bool.Decides.{nat_tests}
use Rattle.std.proofs.lemmas.Grind.{flat_map-append}
use Rattle.std.proofs.lemmas.List.{get_or_past}
use Rattle.std.proofs.lemmas.List.Concat.{flat_map-cons}
use Rattle.std.proofs.lemmas.Str.{IsUtf8-from_ascii}
use Rattle.std.specs.Str.{IsAscii, IsUtf8}
use Rattle.std.specs.Result.{result_ok, IsErrAnd}
use Rattle.std.specs.Global.{Vec}
use Rattle.hex.proofs.HexLemmas.{IsAscii-encode_with}
use Rattle.hex.specs.Hex.{lower_digits, encode_with, encode_lower, hex_digit_value, digit_or_error, decode_pairs, decode_of, ◌>>=◌}
use Rattle.hex.specs.declared.error.FromHexError.{FromHexError}
use Rattle.hex.specs.declared.error.FromHexError.TheVariants.{InvalidHexCharacter, OddLength, InvalidStringLength, OutOfMemory}
use Rattle.script.specs.declared.fault.Fault.{Fault}
use Rattle.script.specs.Bytes.{Faulty, Reads, fault_of}
use Rattle.script.specs.Digits.{digit_of, lower_digit, hex_pair, hex_of, printed, and_then, byte_of, with_byte, hex_bytes, bytes_of}

-- the digit of one value, and of all below a number: both tests compute
abbrev has_digit : ℕ → Bool
has_digit v = slice_index lower_digits v == lower_digit v

abbrev all_have : ℕ → Bool
all_have zero = true
all_have (suc n) = has_digit n && all_have n

one_has : (n v : ℕ) → all_have n ≡ true → v < n → has_digit v ≡ true
one_has zero v all h = absurd (omega arith)
one_has (suc n) v all h =
    let parts = and_parts (has_digit n) (all_have n) all in
    elim (cases_lt v n) [
      | inl below ↦ one_has n v parts.1 below
      | inr top ↦
          let last : v ≡ n = omega arith in
          rw last parts.0
    ]

digit : (v : ℕ) → v < 16 → slice_index lower_digits v ≡ lower_digit v
digit v h = eqb-true (slice_index lower_digits v) (lower_digit v) (one_has 16 v refl h)

-- what the library writes of bytes
pub encoded : (bs : List ℕ) → ((i : ℕ) → slice_index bs i < 256) → encode_lower bs ≡ hex_of bs
unfolding encode_with
encoded [] h = refl
encoded (b ∷ bs) h =
    let small : b < 256 = h 0 in
    let high = digit (b / 16) (omega arith) in
    let low = digit (b % 16) (omega arith) in
    let rest = encoded bs (λ i. h (suc i)) in
    rw (high, low, rest, flat_map-cons hex_pair b bs) refl

low_digit : (v : ℕ) → v < 16 → lower_digit v < 128
low_digit v h = grind (arith, nat_tests)

plain : IsAscii lower_digits
plain i = elim (cases_lt i 16) [
  | inl below ↦ rw (digit i below) (low_digit i below)
  | inr past ↦ rw (get_or_past lower_digits i 0 past) (lit< tt)
]

pub is_text : (bs : List ℕ) → IsUtf8 (encode_lower bs)
is_text bs = IsUtf8-from_ascii (encode_lower bs) (IsAscii-encode_with lower_digits bs plain)

pub written_so_far : (front chunk : List ℕ) → hex_of front ++ hex_of chunk ≡ hex_of (front ++ chunk)
written_so_far front chunk = sym (flat_map-append hex_pair front chunk)

pub some_printed : (bs : List ℕ) → (bs ≡ [] → ⊥) → hex_of bs ≡ printed bs
some_printed [] some = absurd (some refl)
some_printed (b ∷ bs) some = refl

digit_same : (c : ℕ) → hex_digit_value c ≡ digit_of c
digit_same c = grind (arith, nat_tests)

pair_same : (high low i : ℕ) (h l : Option ℕ) (r : Result (List ℕ) FromHexError) →
    result_ok (((digit_or_error high i h) >>= (λ x. (digit_or_error low (i + 1) l) >>= (λ y. Ok (x * 16 + y)))) >>= (λ b. r >>= (λ bs. Ok (b ∷ bs))))
    ≡ and_then (and_then h (λ x. and_then l (λ y. Some (x * 16 + y)))) (λ b. with_byte b (result_ok r))
pair_same high low i None l r = refl
pair_same high low i (Some x) None r = refl
pair_same high low i (Some x) (Some y) (Ok bs) = refl
pair_same high low i (Some x) (Some y) (Err e) = refl

pairs : (i : ℕ) (ds : List ℕ) → result_ok (decode_pairs i ds) ≡ hex_bytes ds
unfolding decode_pairs hex_bytes
pairs i [] = refl
pairs i (d ∷ []) = refl
pairs i (high ∷ (low ∷ ds)) =
    pair_same high low i (hex_digit_value high) (hex_digit_value low) (decode_pairs (i + 2) ds)
    ∙ ap (λ (o : Option ℕ). and_then (and_then o (λ x. and_then (hex_digit_value low) (λ y. Some (x * 16 + y)))) (λ b. with_byte b (result_ok (decode_pairs (i + 2) ds)))) (digit_same high)
    ∙ ap (λ (o : Option ℕ). and_then (and_then (digit_of high) (λ x. and_then o (λ y. Some (x * 16 + y)))) (λ b. with_byte b (result_ok (decode_pairs (i + 2) ds)))) (digit_same low)
    ∙ ap (λ (o : Option (List ℕ)). and_then (byte_of high low) (λ b. with_byte b o)) (pairs (i + 2) ds)

odd : (ds : List ℕ) → length ds % 2 ≡ 1 → hex_bytes ds ≡ None
unfolding hex_bytes
odd [] h = absurd (omega arith)
odd (d ∷ []) h = refl
odd (high ∷ (low ∷ ds)) h =
    ap (λ (o : Option (List ℕ)). and_then (byte_of high low) (λ b. with_byte b o)) (odd ds (omega arith))
    ∙ elim (byte_of high low) as (λ o. and_then o (λ b. with_byte b None) ≡ None) [ None ↦ refl | Some b ↦ refl ]

pub decoded : (ds : List ℕ) → result_ok (decode_of ds) ≡ hex_bytes ds
decoded ds =
    elim (cases_eq (length ds % 2) 1) [
      | inl e ↦ rw (eq-eqb (length ds % 2) 1 e) (sym (odd ds e))
      | inr ne ↦ rw (ne_eqb (length ds % 2) 1 ne) (pairs 0 ds)
    ]

-- a word of digits alone
pub digits : (word : List ℕ) → (word ≡ [] → ⊥) → (word ≡ 45 ∷ [] → ⊥) → bytes_of word ≡ hex_bytes word
digits [] some dash = absurd (some refl)
digits (b ∷ []) some dash = rw (ne_eqb b 45 (λ e. dash (ap (λ (x : ℕ). x ∷ []) e))) refl
digits (b ∷ (c ∷ bs)) some dash =
    elim (b == 45) as (λ v. cond (v && length (c ∷ bs) == 0) (Some []) (hex_bytes (b ∷ (c ∷ bs))) ≡ hex_bytes (b ∷ (c ∷ bs)))
    [ true ↦ rw (ne_eqb (length (c ∷ bs)) 0 (λ z. omega arith)) refl | false ↦ refl ]

pub unread : (word : List ℕ) (e : FromHexError) → (bytes_of word ≡ hex_bytes word) → (e ≡ OutOfMemory) ⊎ (decode_of word ≡ Err e) → Faulty (bytes_of word) (fault_of e)
unread word OutOfMemory all why = tt
unread word OddLength all (inl x) = cc
unread word OddLength all (inr d) = all ∙ sym (decoded word) ∙ ap result_ok d
unread word InvalidStringLength all (inl x) = cc
unread word InvalidStringLength all (inr d) = all ∙ sym (decoded word) ∙ ap result_ok d
unread word (InvalidHexCharacter c i) all (inl x) = cc
unread word (InvalidHexCharacter c i) all (inr d) = all ∙ sym (decoded word) ∙ ap result_ok d

pub fault_read : (o : Option (List ℕ)) (r : Result (Vec ℕ) Fault) (f : Fault) → IsErrAnd r (λ g. g ≡ f) → Faulty o f → Reads o r
fault_read o (Ok v) f is faulty = absurd is
fault_read o (Err g) f is faulty = subst (λ (x : Fault). Faulty o x) (sym is) faulty
