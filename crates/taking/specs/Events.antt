-- Hearings as the shared taking rules see them, and how a carrier's frames come down to them.
use Rattle.std.specs.Prelude.{◌≡◌, ℕ, ◌<◌, ◌≤◌, Bool, true, ◌⊎◌, List, [], ◌∷◌, ◌++◌, length, Some, None, Option}
use Rattle.carrier.specs.Hearing.{AtMostOnce, Full, IsLabel, Numbers, Once, completed, completed_at, frames_of}
use Rattle.carrier.specs.Meaning.{Meaning, Outcome, answered, next, refused}
use Rattle.carrier.specs.declared.answer.Answer.TheVariants.{Kept}
use Rattle.label.specs.Label.{Label, Same}
use Rattle.label.specs.Lawful.{lawful}
use Rattle.taking.specs.Pieces.{Pieces}
use Rattle.taking.specs.Taking.{Tags, Taken, label_from, on_tags, on_text}

-- what a frame of a label is to the shared rules: one of its pieces, its tags, or a frame that leaves their state
pub data Event : Type 0 where
  piece : ℕ → Event
  tags : Event
  aside : Event

-- a label as a carrier sends it
pub record OnAir (K : Type 0) : Type 0 where
  pub toggle : Bool
  pub count : ℕ
  pub pieces : ℕ → K
  pub tags : Tags
  -- the toggle that the tags have, or none
  pub tags_toggle : Option Bool

-- what is heard is the label l
pub record Airs {K : Type 0} (l : Label) (a : OnAir K) : Type 0 where
  pub some : 0 < a.count
  pub lawful : lawful (length l.text) a.tags.tags ≡ true
  pub same : Same (label_from l.text a.tags) l
  pub own : (a.tags_toggle ≡ None) ⊎ (a.tags_toggle ≡ Some a.toggle)

abbrev pub on_event : {P K : Type 0} → Pieces P K → OnAir K → Taken P → Event → Outcome (Taken P)
on_event q a s (piece i) = on_text q s a.toggle (a.pieces i)
on_event q a s tags = on_tags q s a.tags_toggle a.tags
on_event q a s aside = answered Kept s

abbrev pub completed_here : {P : Type 0} → Outcome (Taken P) → List (Option Label)
completed_here (answered x t) = completed_at x t.told
completed_here (refused e) = []

-- runs over events
abbrev pub run : {P K : Type 0} → Pieces P K → OnAir K → Taken P → List Event → Taken P
run q a s [] = s
run q a s (e ∷ es) = run q a (next s (on_event q a s e)) es

abbrev pub run_completions : {P K : Type 0} → Pieces P K → OnAir K → Taken P → List Event → List (Option Label)
run_completions q a s [] = []
run_completions q a s (e ∷ es) = completed_here (on_event q a s e) ++ run_completions q a (next s (on_event q a s e)) es

abbrev pub Among : Event → List Event → Type 0
Among x [] = ⊥
Among x (e ∷ es) = (e ≡ x) ⊎ Among x es

-- the event is one of a label with n pieces
abbrev pub Within : ℕ → Event → Type 0
Within n (piece i) = i < n
Within n tags = Unit {0}
Within n aside = Unit {0}

abbrev pub AllWithin : ℕ → List Event → Type 0
AllWithin n [] = Unit {0}
AllWithin n (e ∷ es) = Within n e × AllWithin n es

pub record HearsEvents {P K : Type 0} (q : Pieces P K) (l : Label) (a : OnAir K) (s : Taken P) (es : List Event) : Type 0 where
  pub stands : (run q a s es).standing ≡ Some a.toggle
  pub once : AtMostOnce l (run_completions q a s es)
  pub full : ((i : ℕ) → i < a.count → Among (piece i) es) → Among tags es → Once l (run_completions q a s es) × IsLabel l (run q a s es).told

-- the events of a row of frame numbers, where the event of a frame may hang on the carrier's state
abbrev pub events : {S : Type 0} → Meaning S → Label → Bool → ℕ → (S → ℕ → Event) → S → List ℕ → List Event
events m l t v event s [] = []
events m l t v event s (n ∷ ns) = event s n ∷ events m l t v event (next s (m.step s (m.writing.frame l t v n))) ns

-- a carrier with the state S sends the label l as a, and its frames do to the shared state (`core`) what their events do
pub record Carries {S P K : Type 0} (m : Meaning S) (q : Pieces P K) (core : S → Taken P) (l : Label) (v : ℕ) (a : OnAir K) (event : S → ℕ → Event) : Type 0 where
  pub standing : (s : S) → m.standing s ≡ (core s).standing
  pub told : (s : S) → m.told s ≡ (core s).told
  pub new : m.standing m.fresh ≡ None
  pub fewer : a.count ≤ frames_of m l
  pub pieces : (s : S) (i : ℕ) → i < a.count → event s i ≡ piece i
  pub within : (s : S) (n : ℕ) → n < frames_of m l → Within a.count (event s n)
  pub moves : (s : S) (n : ℕ) → n < frames_of m l → core (next s (m.step s (m.writing.frame l a.toggle v n))) ≡ next (core s) (on_event q a (core s) (event s n))
  pub completes : (s : S) (n : ℕ) → n < frames_of m l → completed m (m.step s (m.writing.frame l a.toggle v n)) ≡ completed_here (on_event q a (core s) (event s n))
  pub tags_come : (s : S) (ns : List ℕ) → Numbers (frames_of m l) ns → Full (frames_of m l) ns → Among tags (events m l a.toggle v event s ns)
