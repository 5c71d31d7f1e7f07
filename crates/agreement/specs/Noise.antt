-- Hearings with frames of other sources between: they do what the hearing alone does.
use Rattle.std.specs.Prelude.{◌≡◌, ℕ, Bool, List, map, Some}
use Rattle.label.specs.Label.{Label}
use Rattle.carrier.specs.Hearing.{AtMostOnce, Begins, Full, IsLabel, Numbers, Once, Sendable, after, completions, frames_of}
use Rattle.carrier.specs.Meaning.{Meaning}
use Rattle.agreement.specs.Runs.{Heard, Begun, Undisturbed, frame_of, numbers}

-- the frames in the order in which they come
abbrev pub reaching : {S : Type 0} → Meaning S → Label → Bool → ℕ → List Heard → List (List ℕ)
reaching m l t v hs = map (frame_of m l t v) hs

-- the label's toggle stands; it is completed at most once and no other; by a full hearing exactly once, and it is told at the end
pub record HearsStrewn {S : Type 0} (m : Meaning S) (l : Label) (t : Bool) (v : ℕ) (s : S) (hs : List Heard) : Type 0 where
  pub stands : m.standing (after m s (reaching m l t v hs)) ≡ Some t
  pub once : AtMostOnce l (completions m s (reaching m l t v hs))
  pub full : Full (frames_of m l) (numbers hs) → Once l (completions m s (reaching m l t v hs)) × IsLabel l (m.told (after m s (reaching m l t v hs)))

abbrev pub HearsThroughNoise : {S : Type 0} → Meaning S → Type 0
HearsThroughNoise {S} m = (l : Label) (t : Bool) (v : ℕ) (s : S) (hs : List Heard) → Sendable m l → Begins m t s → Begun (numbers hs) → Numbers (frames_of m l) (numbers hs) → Undisturbed m l t v s hs → HearsStrewn m l t v s hs
