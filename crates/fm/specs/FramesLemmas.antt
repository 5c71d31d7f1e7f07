-- A text frame as its eight bytes, and which frame has which number.
use Rattle.std.specs.Prelude.{◌≡◌, ℕ, ◌+◌, ◌*◌, ◌/◌, ◌%◌, ◌<◌, ◌≤◌, Bool, true, cond, List, [], ◌∷◌, length, slice_index}
use Rattle.std.proofs.Common.{arith}
use Rattle.std.proofs.lemmas.Bool.Decides.{nat_tests}
use Rattle.label.specs.Drafts.{matches}
use Rattle.label.specs.Label.{Label, Outline}
use Rattle.fm.specs.Frames.{last_segment, closed, segment, text_frame, announcing_frame, tags_frame, fm_frame, fm_writing}
use Rattle.fm.specs.Closed.{four_bytes}

pub text_laid : (x : List ℕ) (t : Bool) (v s b p q r w : ℕ) → v < 65536 → s < 16 → 4 * s + 4 ≤ length (closed x) → b ≡ cond t 1 0
    → p ≡ slice_index (closed x) (4 * s) → q ≡ slice_index (closed x) (4 * s + 1) → r ≡ slice_index (closed x) (4 * s + 2) → w ≡ slice_index (closed x) (4 * s + 3)
    → v / 256 ∷ v % 256 ∷ 32 ∷ (b * 16 + s) ∷ p ∷ q ∷ r ∷ w ∷ [] ≡ text_frame x t v s
text_laid x t v s b p q r w hv hs hl hb hp hq hr hw =
    let f = four_bytes x s hl in
    let g : p ∷ q ∷ r ∷ w ∷ [] ≡ segment x s = cc in
    grind arith

-- which frame has which number
module _ (l : Label) (t : Bool) (v n : ℕ) where
  pub text_at : n ≤ last_segment (length l.text) → fm_frame l t v n ≡ text_frame l.text t v n
  unfolding fm_frame
  text_at h = grind (arith, nat_tests)

  pub announcing_at : n ≡ last_segment (length l.text) + 1 → fm_frame l t v n ≡ announcing_frame v
  unfolding fm_frame
  announcing_at e = grind (arith, nat_tests)

  pub tags_at : last_segment (length l.text) + 1 < n → fm_frame l t v n ≡ tags_frame l.item l.tags v
  unfolding fm_frame
  tags_at h = grind (arith, nat_tests)

pub last_few : (n : ℕ) → last_segment n ≤ 15
last_few n = grind (arith, nat_tests)

-- a label that fits has a short text
pub fitting : (o : Outline) (text : List ℕ) → fm_writing.fits o ≡ true → matches o text ≡ true → length text ≤ 64
fitting o text h k = grind (arith, nat_tests)
