use Rattle.std.proofs.Common.{◌/◌, length, map, ap, ◌∙◌, arith}
use Rattle.std.proofs.lemmas.List.{take_all}
use Rattle.dab.specs.Taking.{tag_in}
use Rattle.dab.proofs.Arriving.{map-first_chunks}
use Rattle.dab.proofs.tags.tags_in.Goals as goal

pub returns : goal.returns
returns c =
    let xs = c.args.bytes.now in
    c.loop-three.invariant ∙ ap (map tag_in) (take_all _ _ (omega arith) ∙ c.as_chunks.ensures.front) ∙ map-first_chunks (length xs / 3) xs
