-- What a display shows, by its fields.
use Rattle.agreement.specs.Shown.{Shown}
use Rattle.display.specs.declared.shown.Display.{Display}
use Rattle.display.specs.Held.{table_of}

-- with the carrier seen by its state
abbrev pub view : {C S : Type 0} → (C → S) → Display C → Shown S
view state d = record { carrier = state d.carrier; table = table_of d.table }
