use Rattle.std.proofs.Common.{take}
use Rattle.carrier.specs.Aired.{told_label}
use Rattle.agreement.specs.Rules.{rule_2}
use Rattle.display.specs.Held.{ChangesRows}
use Rattle.display.proofs.Tags.{tagged}
use Rattle.display.proofs.table.ClassTable.rule_2.Given as goal

abbrev pub invariant-loop-tag : goal.invariant-loop-tag
invariant-loop-tag l = ChangesRows l.initial.self l.self (rule_2 (tagged (told_label l.told) (take l.tag-index l.tag-items)))
