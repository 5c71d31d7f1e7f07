-- What the structs of the taking side stand for.
use Rattle.std.specs.Option.{option_map}
use Rattle.carrier.specs.Aired.{told_label}
use Rattle.carrier.specs.Listed.{listed}
use Rattle.taking.specs.Taking.{Tags, Taken}
use Rattle.taking.specs.declared.arrived.Arrived.{Arrived}
use Rattle.taking.specs.declared.taken.Taking.{Taking}

-- the tags that arrived
abbrev pub tags_of : Arrived → Tags
tags_of a = record { item = a.item; tags = listed a.tags }

-- the state, with the pieces seen by `held`
abbrev pub view : {C P : Type 0} → (C → P) → Taking C → Taken P
view held s = record { standing = s.standing; held = held s.pieces; waiting = option_map tags_of s.waiting; told = option_map told_label s.told }
