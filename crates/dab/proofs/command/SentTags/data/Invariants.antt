use Rattle.std.proofs.Common.{◌≡◌, ◌∷◌, length, take}
use Rattle.std.specs.List.{flat_map}
use Rattle.dab.specs.Frames.{tag_bytes, tags_first}
use Rattle.dab.proofs.command.SentTags.data.Given as goal

abbrev pub invariant-loop-tag : goal.invariant-loop-tag
invariant-loop-tag l = l.bytes.items ≡ tags_first l.fn.item (length l.self.tags.now) ∷ flat_map tag_bytes (take l.tag-index l.self.tags.now)
