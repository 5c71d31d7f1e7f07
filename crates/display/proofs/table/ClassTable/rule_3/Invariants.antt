use Rattle.std.proofs.Common.{ℕ, ◌≤◌, length, take}
use Rattle.carrier.specs.Aired.{told_label}
use Rattle.agreement.specs.Rules.{rule_3}
use Rattle.display.specs.Held.{held, ChangesRows}
use Rattle.display.proofs.Tags.{tagged}
use Rattle.display.proofs.table.ClassTable.rule_3.Given as goal

abbrev pub invariant-loop-tag : goal.invariant-loop-tag
invariant-loop-tag l = record {
  rows : ChangesRows l.initial.self l.self (rule_3 (tagged (told_label l.told) (take l.tag-index l.tag-items)));
  small : ((k : ℕ) → length (held l.initial.self k) ≤ 128) → (k : ℕ) → length (held l.self k) ≤ 128;
}
