use Rattle.std.proofs.Common.{◌≡◌, length}
use Rattle.programme.specs.Times.{dated_from}
use Rattle.programme.proofs.time.dated_from.Given as goal

abbrev pub invariant-loop-rest : goal.invariant-loop-rest
invariant-loop-rest l = dated_from l.rest ≡ dated_from l.s

abbrev pub decreases-loop-rest : goal.decreases-loop-rest
decreases-loop-rest l = length l.rest
