-- What is refused after a history, and its running bit, in words. A history has the latest event first.
use Rattle.std.specs.Prelude.{◌≡◌, true, ◌↔◌, List, [], ◌∷◌, ◌++◌, Some, None}
use Rattle.label.specs.declared.refusal.Refusal.TheVariants.{ItemStarted, NoItemRuns}
use Rattle.agreement.specs.Calls.{start, end}
use Rattle.agreement.specs.History.{Event, started, ended, sent, item_bits, refusal}

abbrev pub NoLabel : List Event → Type 0
NoLabel [] = Unit {0}
NoLabel (started ∷ h) = NoLabel h
NoLabel (ended ∷ h) = NoLabel h
NoLabel (sent l ∷ h) = ⊥

abbrev pub OnlyLabels : List Event → Type 0
OnlyLabels [] = Unit {0}
OnlyLabels (started ∷ h) = ⊥
OnlyLabels (ended ∷ h) = ⊥
OnlyLabels (sent l ∷ h) = OnlyLabels h

-- a start with no sent label later
pub record StartSinceLabel (h : List Event) : Type 0 where
  pub later : List Event
  pub earlier : List Event
  pub at : h ≡ later ++ (started ∷ earlier)
  pub none : NoLabel later

-- a start with no start and no end later
pub record LastIsStart (h : List Event) : Type 0 where
  pub later : List Event
  pub earlier : List Event
  pub at : h ≡ later ++ (started ∷ earlier)
  pub none : OnlyLabels later

-- when an item start and an item end are done or refused, and when the running bit is 1
pub record InWords (h : List Event) : Type 0 where
  pub start_refused : StartSinceLabel h → refusal h start ≡ Some ItemStarted
  pub start_done : (StartSinceLabel h → ⊥) → refusal h start ≡ None
  pub end_done : LastIsStart h → refusal h end ≡ None
  pub end_refused : (LastIsStart h → ⊥) → refusal h end ≡ Some NoItemRuns
  pub running : ((item_bits h).running ≡ true) ↔ LastIsStart h

abbrev pub HistoryInWords : Type 0
HistoryInWords = (h : List Event) → InWords h
