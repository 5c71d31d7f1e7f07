use Rattle.std.proofs.Common.{◌≡◌, map, take}
use Rattle.dab.specs.Taking.{tag_in}
use Rattle.dab.proofs.tags.tags_in.Given as goal

abbrev pub invariant-loop-three : goal.invariant-loop-three
invariant-loop-three l = l.tags.items ≡ map tag_in (take l.three-index l.three-items)
