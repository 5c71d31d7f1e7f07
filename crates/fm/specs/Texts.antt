-- A label's text in FM's segments.
use Rattle.std.specs.Prelude.{◌≡◌, ℕ, zero, suc, ◌*◌, ◌/◌, ◌<◌, ◌≤◌, true, false, cond, List, [], ◌∷◌, ◌++◌, length, take, drop, ◌==◌, nat_lt, refl}
use Rattle.std.proofs.Common.{sym, ap, ◌∙◌, inl, inr, ⊎_elim, arith, length-drop}
use Rattle.std.specs.List.{position_or_len}
use Rattle.std.proofs.lemmas.List.{take_all, take-append-le, drop-append-le}
use Rattle.std.proofs.lemmas.Bool.Decides.{nat_tests}
use Rattle.std.proofs.lemmas.Grind.{common_steps}
use Rattle.std.proofs.lemmas.Bool.{ltb-true, ltb-false, cases_lt}
use Rattle.label.specs.Drafts.{control}
use Rattle.label.specs.Lists.{any}
use Rattle.taking.specs.Segments.{SegmentsOf}
use Rattle.taking.proofs.Cutting.{bytes_same, cut_joins}
use Rattle.fm.specs.Frames.{last_segment, segment}
use Rattle.fm.specs.Text.{fm_segments, has_return, before_return}

-- a row without bytes below 0x20 has no 0x0D
printing_return : (xs : List ℕ) → any control xs ≡ false → has_return xs ≡ false
printing_return [] e = refl
printing_return (x ∷ xs) e = grind (arith, nat_tests, printing_return xs)

-- where the first 0x0D is, or the end
abbrev pub return_at : List ℕ → ℕ
return_at xs = position_or_len (λ x. x == 0x0D) xs

printing_all : (xs : List ℕ) → any control xs ≡ false → return_at xs ≡ length xs
printing_all [] e = refl
printing_all (x ∷ xs) e = grind (arith, nat_tests, printing_all xs)

printing_before : (xs : List ℕ) → any control xs ≡ false → before_return xs ≡ xs
printing_before xs e = take_all (return_at xs) xs (omega (arith, printing_all xs e))

printing_drop : (n : ℕ) (xs : List ℕ) → any control xs ≡ false → any control (drop n xs) ≡ false
printing_drop zero xs e = e
printing_drop (suc n) [] e = refl
printing_drop (suc n) (x ∷ xs) e = grind (arith, nat_tests, printing_drop n xs)

printing_take : (n : ℕ) (xs : List ℕ) → any control xs ≡ false → any control (take n xs) ≡ false
printing_take zero xs e = refl
printing_take (suc n) [] e = refl
printing_take (suc n) (x ∷ xs) e = grind (arith, nat_tests, printing_take n xs)

-- the closing 0x0D within the next n bytes
closed_return : (n : ℕ) (xs ys : List ℕ) → length xs < n → any control xs ≡ false → has_return (take n (xs ++ (13 ∷ ys))) ≡ true
closed_return zero xs ys c e = absurd (omega arith)
closed_return (suc n) [] ys c e = refl
closed_return (suc n) (x ∷ xs) ys c e = grind (arith, nat_tests, closed_return n xs ys)

closed_at : (n : ℕ) (xs ys : List ℕ) → length xs < n → any control xs ≡ false → return_at (take n (xs ++ (13 ∷ ys))) ≡ length xs
closed_at zero xs ys c e = absurd (omega arith)
closed_at (suc n) [] ys c e = refl
closed_at (suc n) (x ∷ xs) ys c e = grind (arith, nat_tests, closed_at n xs ys)

closed_before : (n : ℕ) (xs ys : List ℕ) → length xs < n → any control xs ≡ false → before_return (take n (xs ++ (13 ∷ ys))) ≡ xs
closed_before n xs ys c e = let z = closed_at n xs ys c e in grind (arith, common_steps)

-- the closing 0x0D, and the spaces that fill a segment
abbrev closing : List ℕ
closing = 0x0D ∷ 0x20 ∷ 0x20 ∷ 0x20 ∷ []

module _ (x : List ℕ) (pr : any control x ≡ false) where
  printing_part : (i : ℕ) → any control (take 4 (drop (4 * i) x)) ≡ false
  printing_part i = printing_take 4 (drop (4 * i) x) (printing_drop (4 * i) x pr)

  -- 64 bytes
  module _ (l : length x ≡ 64) where
    fm_full : SegmentsOf fm_segments x 15 (λ i. take 4 (drop (4 * i) x))
    fm_full = record {
      few = omega arith;
      goes_on = λ i c. printing_return (take 4 (drop (4 * i) x)) (printing_part i);
      shut = inr (refl, printing_return (take 4 (drop (4 * 15) x)) (printing_part 15), refl);
      same = λ i. bytes_same (take 4 (drop (4 * i) x));
      joins = cut_joins fm_segments x 15 4 (λ i. take 4 (drop (4 * i) x)) (λ i. 4 * i) (λ i. omega arith) (λ i c. printing_before (take 4 (drop (4 * i) x)) (printing_part i)) (omega arith) 15 0 refl;
    }

  -- fewer
  module _ (l : length x < 64) where
    fm_inside : (i : ℕ) → i < length x / 4 → take 4 (drop (4 * i) (x ++ closing)) ≡ take 4 (drop (4 * i) x)
    fm_inside i c = ap (take 4) (drop-append-le (4 * i) x closing (omega arith)) ∙ take-append-le 4 (drop (4 * i) x) closing (simp length-drop (omega arith))

    fm_closing : (i : ℕ) → i ≡ length x / 4 → drop (4 * i) (x ++ closing) ≡ drop (4 * i) x ++ closing
    fm_closing i c = grind (arith, common_steps)

    fm_cut : (i : ℕ) → i < suc (length x / 4) → before_return (take 4 (drop (4 * i) (x ++ closing))) ≡ take 4 (drop (4 * i) x)
    fm_cut i c =
        ⊎_elim (λ e. ap before_return (fm_inside i e) ∙ printing_before (take 4 (drop (4 * i) x)) (printing_part i))
        (λ (e : length x / 4 ≤ i). let z : i ≡ length x / 4 = omega arith in
        ap (λ ys. before_return (take 4 ys)) (fm_closing i z)
        ∙ closed_before 4 (drop (4 * i) x) (0x20 ∷ 0x20 ∷ 0x20 ∷ []) (simp length-drop (omega arith)) (printing_drop (4 * i) x pr)
        ∙ sym (take_all 4 (drop (4 * i) x) (simp length-drop (omega arith))))
        (cases_lt i (length x / 4))

    fm_short : SegmentsOf fm_segments x (length x / 4) (λ i. take 4 (drop (4 * i) (x ++ closing)))
    fm_short = record {
      few = omega arith;
      goes_on = λ i c. ap has_return (fm_inside i c) ∙ printing_return (take 4 (drop (4 * i) x)) (printing_part i);
      shut = inl (ap (λ ys. has_return (take 4 ys)) (fm_closing (length x / 4) refl)
          ∙ closed_return 4 (drop (4 * (length x / 4)) x) (0x20 ∷ 0x20 ∷ 0x20 ∷ []) (simp length-drop (omega arith)) (printing_drop (4 * (length x / 4)) x pr));
      same = λ i. bytes_same (take 4 (drop (4 * i) (x ++ closing)));
      joins = cut_joins fm_segments x (length x / 4) 4 (λ i. take 4 (drop (4 * i) (x ++ closing))) (λ i. 4 * i) (λ i. omega arith) fm_cut (omega arith) (length x / 4) 0 (omega arith);
    }

  pub fm_text : length x ≤ 64 → SegmentsOf fm_segments x (last_segment (length x)) (segment x)
  fm_text c =
      elim (nat_lt (length x) 64) as (λ b. nat_lt (length x) 64 ≡ b → SegmentsOf fm_segments x (cond b (length x / 4) 15) (λ i. take 4 (drop (4 * i) (cond b (x ++ closing) x))))
      [ true ↦ λ e. fm_short (ltb-true (length x) 64 e) | false ↦ λ e. fm_full (omega (arith, ltb-false (length x) 64 e)) ] refl
