use Rattle.std.proofs.Common.{◌≡◌}
use Rattle.crc.specs.Register.{steps}
use Rattle.crc.proofs.take_byte.Given as goal

abbrev pub invariant-loop : goal.invariant-loop
invariant-loop l = l.front ≡ steps l.counter l.initial.front
