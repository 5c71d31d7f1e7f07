-- Reading what a display holds for a class.
use Rattle.std.specs.Prelude.{ℕ, cond, length, Some, None, Option, nat_lt}
use Rattle.label.specs.Classes.{silent}
use Rattle.label.specs.declared.refusal.Refusal.{Refusal}
use Rattle.label.specs.declared.refusal.Refusal.TheVariants.{UnreadableClass, ShortBuffer}
use Rattle.agreement.specs.Rules.{Table}

-- why a class is not read into a buffer of so many bytes
abbrev pub read_refusal : Table → ℕ → ℕ → Option Refusal
read_refusal d c room =
    cond (silent c) (Some UnreadableClass)
    (cond (nat_lt room (length (d.row c))) (Some ShortBuffer) None)
