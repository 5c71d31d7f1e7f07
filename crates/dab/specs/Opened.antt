-- What taking does with a frame that was opened, or was not.
use Rattle.std.specs.Prelude.{ℕ, List, Ok, Err, Result}
use Rattle.label.specs.declared.refusal.Refusal.{Refusal}
use Rattle.carrier.specs.Meaning.{Outcome, refused}
use Rattle.dab.specs.declared.open.Opened.{Opened}
use Rattle.dab.specs.Taking.{State, take_body}

-- a rule of taking, by the prefix bytes and the data of an opened frame
abbrev pub at_frame : (State → ℕ → ℕ → List ℕ → Outcome State) → State → Opened → Outcome State
at_frame rule s f = rule s f.prefix.first f.prefix.second f.load.bytes.now

abbrev pub on_opened : State → Result Opened Refusal → Outcome State
on_opened s (Ok f) = at_frame take_body s f
on_opened s (Err e) = refused e
