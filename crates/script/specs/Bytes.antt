-- What reading bytes from a word gives: the bytes, or a fault; memory can fail in any case.
use Rattle.std.specs.Prelude.{◌≡◌, ℕ, List, Some, None, Ok, Err, vec_items, Option, Result}
use Rattle.std.specs.Global.{Vec}
use Rattle.hex.specs.declared.error.FromHexError.{FromHexError}
use Rattle.hex.specs.declared.error.FromHexError.TheVariants.{OutOfMemory}
use Rattle.script.specs.declared.fault.Fault.{Fault}
use Rattle.script.specs.declared.fault.Fault.TheVariants.{Wrong, Memory}

abbrev pub Faulty : Option (List ℕ) → Fault → Type 0
Faulty o Wrong = o ≡ None
Faulty o Memory = Unit {0}

abbrev pub Reads : Option (List ℕ) → Result (Vec ℕ) Fault → Type 0
Reads o (Ok v) = o ≡ Some (vec_items v)
Reads o (Err f) = Faulty o f

-- why digits of bytes were not read
abbrev pub fault_of : FromHexError → Fault
fault_of OutOfMemory = Memory
fault_of _ = Wrong
