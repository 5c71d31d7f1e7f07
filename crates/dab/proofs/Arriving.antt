-- Tags as they arrive, three bytes each.
use Rattle.std.proofs.Common.{◌≡◌, ℕ, zero, suc, List, map, take, drop, refl, arith}
use Rattle.std.specs.Simd.{first_chunks}
use Rattle.std.proofs.lemmas.Grind.{common_steps}
use Rattle.dab.specs.Taking.{tag_in, tags_in}

tag_in-take : (xs : List ℕ) → tag_in (take 3 xs) ≡ tag_in xs
tag_in-take xs = grind (arith, common_steps)

pub map-first_chunks : (k : ℕ) (xs : List ℕ) → map tag_in (first_chunks 3 k xs) ≡ tags_in k xs
map-first_chunks zero xs = refl
map-first_chunks (suc k) xs = let h = tag_in-take xs in let t = map-first_chunks k (drop 3 xs) in cc
