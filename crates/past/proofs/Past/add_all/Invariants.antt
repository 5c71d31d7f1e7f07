use Rattle.std.proofs.Common.{◌≡◌, take}
use Rattle.past.specs.Entries.{holding, added}
use Rattle.past.proofs.Past.add_all.Given as goal

abbrev pub invariant-loop-x : goal.invariant-loop-x
invariant-loop-x g l = holding l.self ≡ added (take l.x-index l.xs) (holding l.initial.self)
