use Rattle.std.proofs.Common.{◌≡◌, drop}
use Rattle.label.specs.Tags.{sounding}
use Rattle.label.specs.Lawful.{all_apart}
use Rattle.label.proofs.lawful.are_apart.Given as goal

abbrev pub invariant-loop-i : goal.invariant-loop-i
invariant-loop-i l = all_apart (sounding l.tags) ≡ all_apart (sounding (drop l.i l.tags))
