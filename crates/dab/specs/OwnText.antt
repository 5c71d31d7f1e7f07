-- A text's own segments make the text.
use Rattle.std.specs.Prelude.{ℕ, ◌*◌, ◌≤◌, List, length, ◌==◌, refl}
use Rattle.std.proofs.Common.{inl, arith}
use Rattle.std.specs.Cmp.{booleans_Decides}
use Rattle.std.proofs.lemmas.Bool.{eq-eqb, ne_eqb, and_from}
use Rattle.std.proofs.lemmas.Slice.Eq.{bytes_eq-Decides}
use Rattle.taking.specs.Segments.{SegmentsOf}
use Rattle.taking.proofs.Cutting.{cut_joins}
use Rattle.dab.specs.Frames.{segment, last_segment}
use Rattle.dab.specs.Text.{dab_segments, text_segment}

module _ (x : List ℕ) (some : 1 ≤ length x) (short : length x ≤ 128) where
  pub own_text : SegmentsOf dab_segments x (last_segment (length x)) (text_segment x)
  own_text =
      let n = last_segment (length x) in
      record {
        few = omega arith;
        goes_on = λ i c. ne_eqb i n (omega arith);
        shut = inl (eq-eqb n n refl);
        same = λ i. and_from _ _ ((bytes_eq-Decides (segment x i) (segment x i)).1 refl) ((booleans_Decides (i == n) (i == n)).1 refl);
        joins = cut_joins dab_segments x n 16 (text_segment x) (λ i. 16 * i) (λ i. omega arith) (λ i _. refl) (omega arith) n 0 (omega arith);
      }
