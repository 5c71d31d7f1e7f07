-- What a display shows, and what a frame does to it.
use Rattle.std.specs.Prelude.{ℕ, List, Some, None, Option}
use Rattle.carrier.specs.declared.answer.Answer.{Answer}
use Rattle.carrier.specs.declared.answer.Answer.TheVariants.{PassedOver, Kept, Complete, Again, Dropped}
use Rattle.label.specs.Label.{Label}
use Rattle.agreement.specs.Rules.{Table, empty, on_label}
use Rattle.carrier.specs.Meaning.{Meaning, Outcome, answered, refused, next}

-- a display: the carrier's state, and what it holds
pub record Shown (S : Type 0) : Type 0 where
  pub carrier : S
  pub table : Table

abbrev pub on_told : Table → Option Label → Table
on_told d None = d
on_told d (Some l) = on_label d l

abbrev pub on_answer : Answer → Table → Option Label → Table
on_answer PassedOver d x = d
on_answer Kept d x = d
on_answer Complete d x = on_told d x
on_answer Again d x = d
on_answer Dropped d x = d

abbrev pub on_outcome : {S : Type 0} → Meaning S → Table → Outcome S → Table
on_outcome m d (answered a t) = on_answer a d (m.told t)
on_outcome m d (refused e) = d

abbrev pub display_step : {S : Type 0} → Meaning S → Shown S → List ℕ → Shown S
display_step m d f = record { carrier = next d.carrier (m.step d.carrier f); table = on_outcome m d.table (m.step d.carrier f) }

-- a new display
abbrev pub new_display : {S : Type 0} → Meaning S → Shown S
new_display m = record { carrier = m.fresh; table = empty }
