-- No text is read where no segment is held.
use Rattle.std.proofs.Common.{◌≡◌, ℕ, zero, suc, ◌<◌, None, refl, arith, ap, ◌∙◌}
use Rattle.taking.specs.Segments.{Segments, in_segments, read_from}

some_read : {D : Type 0} (g : Segments D) (n : ℕ) → 0 < n → read_from g (λ j. None) n 0 ≡ None
some_read g zero c = absurd (omega arith)
some_read g (suc n) c = refl

pub nothing_read : {D : Type 0} (g : Segments D) (n : ℕ) → g.count ≡ n → 0 < n → (in_segments g).text (in_segments g).none ≡ None
nothing_read g n e c = ap (λ k. read_from g (λ j. None) k 0) e ∙ some_read g n c
