use Rattle.std.proofs.Common.{◌≡◌, ℕ, ◌%◌, List, [], ◌∷◌, length, get_or, drop, ap, arith}
use Rattle.std.proofs.lemmas.Grind.{common_steps, elements}
use Rattle.fm.proofs.blocks.Blocks.piece.Goals as goal

last_four : (f : List ℕ) → length f ≡ 8 → get_or f 4 0 ∷ get_or f 5 0 ∷ get_or f 6 0 ∷ get_or f 7 0 ∷ [] ≡ drop 4 f
last_four f e = grind (arith, common_steps, elements)

pub returns : goal.returns
returns c =
    let n = ap (λ k. k % 16) c.own.ensures in
    let e = last_four c.args.self.now.0 (omega arith) in
    λ i. record { number = n i; segment = e i }
