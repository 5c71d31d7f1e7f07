-- What a lamp test asks of a panel.
use Rattle.std.specs.Prelude.{◌≡◌, ℕ, ◌⊎◌, Some, Ok, Err, Option, Result}

-- all segments lit
abbrev pub lit : Option ℕ
lit = Some 888

-- how a panel may answer a drawing and be left by it
abbrev pub Draws : Type 0 → Type 0 → Type 1
Draws Panel Fault = Panel → Option ℕ → Result (Unit {0}) Fault → Panel → Type 0

-- it is asked for the lit front, and unless that fails for the front as it was; its last answer stands
abbrev pub Tested : {Panel Fault : Type 0} → Draws Panel Fault → Draws Panel Fault
Tested {Panel} {Fault} draws before old answer after =
    ((fault : Fault) × draws before lit (Err fault) after × (answer ≡ Err fault))
    ⊎ ((between : Panel) × draws before lit (Ok tt) between × draws between old answer after)
