-- Hearings of a label, and the laws that every carrier shows of them.
use Rattle.std.specs.Prelude.{◌≡◌, ℕ, suc, ◌-◌, ◌<◌, ◌≤◌, Bool, true, false, not, ◌⊎◌, List, [], ◌∷◌, ◌++◌, map, length, is_some, Some, None, Option}
use Rattle.label.specs.Drafts.{control}
use Rattle.label.specs.Label.{Label, Outline, Same}
use Rattle.label.specs.Lawful.{sealable}
use Rattle.label.specs.Lists.{any}
use Rattle.carrier.specs.declared.answer.Answer.{Answer}
use Rattle.carrier.specs.declared.answer.Answer.TheVariants.{PassedOver, Kept, Complete, Again, Dropped}
use Rattle.carrier.specs.Answers.{answer_case}
use Rattle.carrier.specs.Meaning.{Meaning, Outcome, answered, refused, next}

abbrev pub outline_of : Label → Outline
outline_of l = record { len = length l.text; tags = l.tags }

abbrev pub frames_of : {S : Type 0} → Meaning S → Label → ℕ
frames_of m l = m.writing.count (outline_of l)

-- the label that an answer completes
abbrev pub completed_at : Answer → Option Label → List (Option Label)
completed_at PassedOver x = []
completed_at Kept x = []
completed_at Complete x = x ∷ []
completed_at Again x = []
completed_at Dropped x = []

abbrev pub completed : {S : Type 0} → Meaning S → Outcome S → List (Option Label)
completed m (answered a t) = completed_at a (m.told t)
completed m (refused e) = []

-- the state after a row of frames
abbrev pub after : {S : Type 0} → Meaning S → S → List (List ℕ) → S
after m s [] = s
after m s (f ∷ fs) = after m (next s (m.step s f)) fs

-- the labels that a row of frames completes
abbrev pub completions : {S : Type 0} → Meaning S → S → List (List ℕ) → List (Option Label)
completions m s [] = []
completions m s (f ∷ fs) = completed m (m.step s f) ++ completions m (next s (m.step s f)) fs

-- n, n + 1 .. n + k - 1 occur in this order, others between them
abbrev pub InOrder : ℕ → ℕ → List ℕ → Type 0
InOrder n k [] = k ≡ 0
InOrder n k (x ∷ xs) = ((0 < k) × (x ≡ n) × InOrder (suc n) (k - 1) xs) ⊎ InOrder n k xs

-- a full hearing of a label with k frames
abbrev pub Full : ℕ → List ℕ → Type 0
Full k ns = InOrder 0 k ns

-- numbers of a label's k frames
abbrev pub Numbers : ℕ → List ℕ → Type 0
Numbers k [] = Unit {0}
Numbers k (n ∷ ns) = (n < k) × Numbers k ns

-- where a hearing may begin: a new state, or one in which the other toggle stands
abbrev pub Begins : {S : Type 0} → Meaning S → Bool → S → Type 0
Begins m t s = (s ≡ m.fresh) ⊎ (m.standing s ≡ Some (not t))

abbrev pub IsLabel : Label → Option Label → Type 0
IsLabel l None = ⊥
IsLabel l (Some x) = Same x l

-- the label is completed at most once, and no other
abbrev pub AtMostOnce : Label → List (Option Label) → Type 0
AtMostOnce l [] = Unit {0}
AtMostOnce l (x ∷ xs) = IsLabel l x × (xs ≡ [])

-- the label is completed once, and no other
abbrev pub Once : Label → List (Option Label) → Type 0
Once l [] = ⊥
Once l (x ∷ xs) = IsLabel l x × (xs ≡ [])

-- the frames of a hearing, as sending writes them
abbrev pub heard : {S : Type 0} → Meaning S → Label → Bool → ℕ → List ℕ → List (List ℕ)
heard m l t v ns = map (m.writing.frame l t v) ns

-- a label that fits, over a text that a draft takes, with lawful tags, none of them silent
pub record Sendable {S : Type 0} (m : Meaning S) (l : Label) : Type 0 where
  pub fits : m.writing.fits (outline_of l) ≡ true
  pub some : 1 ≤ length l.text
  pub short : length l.text ≤ 128
  pub clean : any control l.text ≡ false
  pub sealed : sealable (length l.text) l.tags ≡ true

-- what a hearing of a label does
pub record Hears {S : Type 0} (m : Meaning S) (l : Label) (t : Bool) (v : ℕ) (s : S) (ns : List ℕ) : Type 0 where
  pub stands : m.standing (after m s (heard m l t v ns)) ≡ Some t
  pub once : AtMostOnce l (completions m s (heard m l t v ns))
  pub full : Full (frames_of m l) ns → Once l (completions m s (heard m l t v ns)) × IsLabel l (m.told (after m s (heard m l t v ns)))

-- what each carrier shows
pub record Lawful {S : Type 0} (m : Meaning S) : Type 0 where
  -- a label has at least one frame, each of 1 to 20 bytes
  pub some : (o : Outline) → 1 ≤ m.writing.count o
  pub sized : (l : Label) (t : Bool) (v n : ℕ) → n < frames_of m l → Sendable m l → (1 ≤ length (m.writing.frame l t v n)) × (length (m.writing.frame l t v n) ≤ 20)
  -- answers 0 and 3 leave the state
  pub follows : (s t : S) (f : List ℕ) (a : Answer) → m.step s f ≡ answered a t → (answer_case a).after s t
  -- answer 2 comes with a label
  pub tells : (s t : S) (f : List ℕ) → m.step s f ≡ answered Complete t → is_some (m.told t) ≡ true
  pub new : m.standing m.fresh ≡ None
  pub hears : (l : Label) (t : Bool) (v : ℕ) (s : S) (ns : List ℕ) → Sendable m l → Begins m t s → Numbers (frames_of m l) (0 ∷ ns) → Hears m l t v s (0 ∷ ns)
