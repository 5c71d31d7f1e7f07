-- Each answer's number, and the states that may follow it.
use Rattle.std.specs.Prelude.{◌≡◌, ℕ}
use Rattle.carrier.specs.declared.answer.Answer.{Answer}
use Rattle.carrier.specs.declared.answer.Answer.TheVariants.{PassedOver, Kept, Complete, Again, Dropped}

-- an answer carries nothing but its number; `after` is the set of states that may follow a state
pub record AnswerCase : Type 1 where
  pub number : ℕ
  pub after : {S : Type 0} → S → S → Type 0

abbrev pub Unchanged : {S : Type 0} → S → S → Type 0
Unchanged s t = t ≡ s

abbrev pub AnyState : {S : Type 0} → S → S → Type 0
AnyState s t = Unit {0}

abbrev pub answer_case : Answer → AnswerCase
answer_case PassedOver = record { number = 0; after = Unchanged }
answer_case Kept = record { number = 1; after = AnyState }
answer_case Complete = record { number = 2; after = AnyState }
answer_case Again = record { number = 3; after = Unchanged }
answer_case Dropped = record { number = 4; after = AnyState }
