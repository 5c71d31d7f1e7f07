use Rattle.std.proofs.Common.{◌≡◌, ◌+◌, false, drop}
use Rattle.programme.specs.Rows.{outside}
use Rattle.programme.proofs.rows.split_outside_quotes.Given as goal

abbrev pub invariant-loop-at : goal.invariant-loop-at
invariant-loop-at l = l.at + outside l.b l.quoted (drop l.at l.s) ≡ outside l.b false l.s
