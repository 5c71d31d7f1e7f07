-- How many bytes tags have, and how they lie in an array of zeros.
use Rattle.std.specs.Prelude.{◌≡◌, ℕ, suc, ◌+◌, ◌-◌, ◌*◌, ◌<◌, ◌≤◌, List, [], ◌∷◌, ◌++◌, length, take, drop, replicate, slice_index_or, refl}
use Rattle.std.proofs.Common.{◌∙◌, ap, arith}
use borrow.Rule.Slice.PartMut.{put_mid}
use Rattle.std.specs.List.{flat_map}
use Rattle.std.proofs.lemmas.List.{append_assoc, length-append, length-replicate, take_all, take_at, drop_at, drop-replicate, take_more, length-take-le, flat_map_more}
use Rattle.label.specs.declared.tag.Tag.{Tag}
use Rattle.label.specs.declared.tag.ItemBits.{ItemBits}
use Rattle.dab.specs.Frames.{tag_bytes, command_data}

pub length_tags : (ts : List Tag) → length (flat_map tag_bytes ts) ≡ 3 * length ts
length_tags [] = refl
length_tags (t ∷ ts) = ap (λ n. suc (suc (suc n))) (length_tags ts) ∙ omega arith

-- the bytes of the tags from 0 to i, and zeros up to n bytes
abbrev pub laid : List Tag → ℕ → ℕ → List ℕ
laid ts i n = flat_map tag_bytes (take i ts) ++ replicate (n - 3 * i) 0

-- one more tag's bytes behind those that stand
pub lays : (ts : List Tag) (i k n : ℕ) (d : Tag) (copy : List ℕ) → i < length ts → k ≡ 3 → copy ≡ tag_bytes (slice_index_or ts i d)
    → put_mid (3 * i) k (laid ts i n) copy ≡ laid ts (i + 1) n
lays ts i k n d copy h e q =
    let front = flat_map tag_bytes (take i ts) in
    let zs : List ℕ = replicate (n - 3 * i) 0 in
    let l : length front ≡ 3 * i = length_tags (take i ts) ∙ ap (λ m. 3 * m) (length-take-le i ts (omega arith)) in
    let a = take_at front zs (3 * i) l in
    let b = drop_at front zs (3 * i) l in
    let z : drop k zs ≡ replicate ((n - 3 * i) - k) 0 = drop-replicate k (n - 3 * i) 0 in
    let m : (n - 3 * i) - k ≡ n - 3 * (i + 1) = omega arith in
    let s = append_assoc front (tag_bytes (slice_index_or ts i d)) (replicate (n - 3 * (i + 1)) 0) in
    let j = flat_map_more tag_bytes [] (take i ts) (slice_index_or ts i d) in
    let t = take_more ts i d h in
    cc

pub length_laid : (ts : List Tag) (i n : ℕ) → i ≤ length ts → 3 * i ≤ n → length (laid ts i n) ≡ n
length_laid ts i n h b =
    let l : length (flat_map tag_bytes (take i ts)) ≡ 3 * i = length_tags (take i ts) ∙ ap (λ m. 3 * m) (length-take-le i ts h) in
    let zs : List ℕ = replicate (n - 3 * i) 0 in
    let z : length zs ≡ n - 3 * i = length-replicate (n - 3 * i) 0 in
    length-append (flat_map tag_bytes (take i ts)) zs ∙ omega arith

pub all_laid : (ts : List Tag) (i n : ℕ) → i ≡ length ts → laid ts i n ≡ flat_map tag_bytes ts ++ replicate (n - 3 * length ts) 0
all_laid ts i n e =
    ap (λ m. laid ts m n) e ∙ ap (λ l. flat_map tag_bytes l ++ replicate (n - 3 * length ts) 0) (take_all (length ts) ts (omega arith))

-- the data in front of the zeros
pub data_taken : (item : ItemBits) (ts : List Tag) (zs bytes : List ℕ) → bytes ≡ command_data item ts ++ zs → take ((3 * length ts + 1) - 0) bytes ≡ command_data item ts
data_taken item ts zs bytes e =
    let l : length (command_data item ts) ≡ (3 * length ts + 1) - 0 = let j = length_tags ts in omega arith in
    ap (take ((3 * length ts + 1) - 0)) e ∙ take_at (command_data item ts) zs ((3 * length ts + 1) - 0) l
