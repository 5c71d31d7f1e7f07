-- The closed text, byte by byte, and a segment as its four bytes.
use Rattle.std.specs.Prelude.{◌≡◌, ℕ, ◌+◌, ◌*◌, ◌<◌, ◌≤◌, List, [], ◌∷◌, length, take, drop, slice_index}
use Rattle.std.proofs.Common.{arith}
use Rattle.std.proofs.lemmas.Bool.Decides.{nat_tests}
use Rattle.std.proofs.lemmas.Grind.{common_steps}
use Rattle.fm.specs.Frames.{closed, segment, last_segment}

pub closed_text : (x : List ℕ) (i : ℕ) → i < length x → slice_index x i ≡ slice_index (closed x) i
closed_text x i h = grind (arith, nat_tests, common_steps)

pub closed_return : (x : List ℕ) (i : ℕ) → i ≡ length x → i < length (closed x) → 13 ≡ slice_index (closed x) i
closed_return x i e k = grind (arith, nat_tests, common_steps)

pub closed_space : (x : List ℕ) (i : ℕ) → length x < i → i < length (closed x) → 32 ≡ slice_index (closed x) i
closed_space x i h k = grind (arith, nat_tests, common_steps)

-- the closed text is as long as its segments
pub closed_length : (x : List ℕ) (s : ℕ) → length x ≤ 64 → s ≤ last_segment (length x) → 4 * s + 4 ≤ length (closed x)
closed_length x s h k = grind (arith, nat_tests, common_steps)

-- four bytes from a position on
pub four_from : (y : List ℕ) (k : ℕ) → k + 4 ≤ length y → slice_index y k ∷ slice_index y (k + 1) ∷ slice_index y (k + 2) ∷ slice_index y (k + 3) ∷ [] ≡ take 4 (drop k y)
four_from y k h = grind (arith, common_steps)

pub four_bytes : (x : List ℕ) (s : ℕ) → 4 * s + 4 ≤ length (closed x)
    → slice_index (closed x) (4 * s) ∷ slice_index (closed x) (4 * s + 1) ∷ slice_index (closed x) (4 * s + 2) ∷ slice_index (closed x) (4 * s + 3) ∷ [] ≡ segment x s
four_bytes x s h = four_from (closed x) (4 * s) h
