-- Stations and displays over whole runs, and the theorem.
use Rattle.std.specs.Prelude.{◌≡◌, ℕ, zero, suc, Bool, List, [], ◌∷◌}
use Rattle.label.specs.Label.{Label}
use Rattle.carrier.specs.declared.answer.Answer.{Answer}
use Rattle.carrier.specs.declared.answer.Answer.TheVariants.{PassedOver, Kept, Complete, Again, Dropped}
use Rattle.carrier.specs.Hearing.{frames_of, Numbers, Full}
use Rattle.carrier.specs.Meaning.{Meaning, Outcome, answered, refused, next}
use Rattle.agreement.specs.Calls.{Call, Made, calls}
use Rattle.agreement.specs.History.{sent_labels, history, history_on, refusals, refusals_on, aired_by, vars_of, Ample}
use Rattle.agreement.specs.Holds.{Holds, Whole}
use Rattle.agreement.specs.Shown.{Shown, display_step, new_display}
use Rattle.agreement.specs.Station.{new_vars, replies, vars_after, Aired, aired}

-- what reaches a display: a frame of the label on the air, by its number, or a frame of another source
pub data Heard : Type 0 where
  own : ℕ → Heard
  other : List ℕ → Heard

-- an answer, and an outcome, that leaves the display as it was
abbrev pub Leaves : Answer → Type 0
Leaves PassedOver = Unit {0}
Leaves Kept = ⊥
Leaves Complete = ⊥
Leaves Again = Unit {0}
Leaves Dropped = ⊥

abbrev pub Quiet : {S : Type 0} → Outcome S → Type 0
Quiet (answered a t) = Leaves a
Quiet (refused e) = Unit {0}

abbrev pub numbers : List Heard → List ℕ
numbers [] = []
numbers (own n ∷ hs) = n ∷ numbers hs
numbers (other f ∷ hs) = numbers hs

abbrev pub frame_of : {S : Type 0} → Meaning S → Label → Bool → ℕ → Heard → List ℕ
frame_of m l t v (own n) = m.writing.frame l t v n
frame_of m l t v (other f) = f

-- the frames of other sources are passed over, answered as heard again, or refused, where they come
abbrev pub Undisturbed : {S : Type 0} → Meaning S → Label → Bool → ℕ → S → List Heard → Type 0
Undisturbed m l t v s [] = Unit {0}
Undisturbed m l t v s (own n ∷ hs) = Undisturbed m l t v (next s (m.step s (m.writing.frame l t v n))) hs
Undisturbed m l t v s (other f ∷ hs) = Quiet (m.step s f) × Undisturbed m l t v s hs

-- the display after it took what reached it
abbrev pub takes : {S : Type 0} → Meaning S → Label → Bool → ℕ → Shown S → List Heard → Shown S
takes m l t v d [] = d
takes m l t v d (h ∷ hs) = takes m l t v (display_step m d (frame_of m l t v h)) hs

abbrev pub Begun : List ℕ → Type 0
Begun [] = ⊥
Begun (n ∷ ns) = n ≡ 0

-- a hearing of a label: numbers of its frames, the first 0, with frames of other sources between that change nothing
pub record Hearing {S : Type 0} (m : Meaning S) (v : ℕ) (s : S) (x : Aired) (hs : List Heard) : Type 0 where
  pub begun : Begun (numbers hs)
  pub its : Numbers (frames_of m x.label) (numbers hs)
  pub undisturbed : Undisturbed m x.label x.toggle v s hs

-- the display after the labels on the air, each with its hearing
abbrev pub shows : {S : Type 0} → Meaning S → ℕ → Shown S → List Aired → List (List Heard) → Shown S
shows m v d [] hs = d
shows m v d (x ∷ xs) [] = d
shows m v d (x ∷ xs) (h ∷ hs) = shows m v (takes m x.label x.toggle v d h) xs hs

-- each label on the air has a hearing
abbrev pub AllHeard : {S : Type 0} → Meaning S → ℕ → Shown S → List Aired → List (List Heard) → Type 0
AllHeard m v d [] [] = Unit {0}
AllHeard m v d [] (h ∷ hs) = ⊥
AllHeard m v d (x ∷ xs) [] = ⊥
AllHeard m v d (x ∷ xs) (h ∷ hs) = Hearing m v d.carrier x h × AllHeard m v (takes m x.label x.toggle v d h) xs hs

-- and each is full
abbrev pub AllFull : {S : Type 0} → Meaning S → List Aired → List (List Heard) → Type 0
AllFull m [] hs = Unit {0}
AllFull m (x ∷ xs) [] = ⊥
AllFull m (x ∷ xs) (h ∷ hs) = Full (frames_of m x.label) (numbers h) × AllFull m xs hs

-- the labels that a new station sends when these calls are made of it
abbrev pub on_air : {S : Type 0} → Meaning S → List Made → List Aired
on_air m ms = aired m new_vars ms

-- what a new display holds for a class after the hearings
abbrev pub held : {S : Type 0} → Meaning S → ℕ → List Made → List (List Heard) → ℕ → List ℕ
held m v ms hs c = (shows m v (new_display m) (on_air m ms) hs).table.row c

-- a station of the service v on a carrier, and a display that hears it
pub record Run {S : Type 0} (m : Meaning S) (v : ℕ) (ms : List Made) (hs : List (List Heard)) : Type 0 where
  pub ample : Ample m ms
  pub heard : AllHeard m v (new_display m) (on_air m ms) hs

-- the labels that calls send, by the history alone
abbrev pub sent_by : List Call → List Label
sent_by cs = sent_labels (history [] cs)

-- what holds of a run on one carrier
pub record Faithful {S : Type 0} (m : Meaning S) (v : ℕ) (ms : List Made) (hs : List (List Heard)) : Type 0 where
  pub refuses : replies m new_vars ms ≡ refusals [] (calls ms)
  pub sends : on_air m ms ≡ aired_by (history [] (calls ms))
  pub holds : AllFull m (on_air m ms) hs → (c : ℕ) → Holds c (sent_by (calls ms)) (held m v ms hs c)
  pub whole : (c : ℕ) → Whole c (sent_by (calls ms)) (held m v ms hs c)

-- what holds of two runs with the same calls, on two carriers
pub record Alike {S T : Type 0} (m : Meaning S) (n : Meaning T) (v w : ℕ) (ms ns : List Made) (hs ks : List (List Heard)) : Type 0 where
  pub first : Faithful m v ms hs
  pub second : Faithful n w ns ks
  pub refuse : replies m new_vars ms ≡ replies n new_vars ns
  pub show : AllFull m (on_air m ms) hs → AllFull n (on_air n ns) ks → (c : ℕ) → held m v ms hs c ≡ held n w ns ks c

-- THE THEOREM: for every list of calls, every two carriers, services and hearings
abbrev pub Agreement : {S T : Type 0} → Meaning S → Meaning T → Type 0
Agreement m n = (v w : ℕ) (ms ns : List Made) (hs ks : List (List Heard)) → calls ms ≡ calls ns → Run m v ms hs → Run n w ns ks → Alike m n v w ms ns hs ks

-- One station and its display, with no assumption on labels and buffers: all is told from the history of what was done.
pub record Told {S : Type 0} (m : Meaning S) (v : ℕ) (ms : List Made) (hs : List (List Heard)) : Type 0 where
  pub refuses : replies m new_vars ms ≡ refusals_on m [] ms
  pub sends : on_air m ms ≡ aired_by (history_on m [] ms)
  pub variables : vars_after m new_vars ms ≡ vars_of (history_on m [] ms)
  pub holds : AllFull m (on_air m ms) hs → (c : ℕ) → Holds c (sent_labels (history_on m [] ms)) (held m v ms hs c)
  pub whole : (c : ℕ) → Whole c (sent_labels (history_on m [] ms)) (held m v ms hs c)

abbrev pub ToldByHistory : {S : Type 0} → Meaning S → Type 0
ToldByHistory m = (v : ℕ) (ms : List Made) (hs : List (List Heard)) → AllHeard m v (new_display m) (on_air m ms) hs → Told m v ms hs

-- such hearings there are, whatever is sent
pub record FullHearings {S : Type 0} (m : Meaning S) (v : ℕ) (ms : List Made) : Type 0 where
  pub hearings : List (List Heard)
  pub heard : AllHeard m v (new_display m) (on_air m ms) hearings
  pub full : AllFull m (on_air m ms) hearings

abbrev pub CanBeHeard : {S : Type 0} → Meaning S → Type 0
CanBeHeard m = (v : ℕ) (ms : List Made) → FullHearings m v ms

-- the frames n, n + 1 and so on, k of them
unfoldable pub count_up : ℕ → ℕ → List Heard
count_up n zero = []
count_up n (suc k) = own n ∷ count_up (suc n) k

abbrev pub all_frames : ℕ → List Heard
all_frames k = count_up 0 k

-- each label heard in full, frame by frame
unfoldable pub full_hearings : {S : Type 0} → Meaning S → List Aired → List (List Heard)
full_hearings m [] = []
full_hearings m (x ∷ xs) = all_frames (frames_of m x.label) ∷ full_hearings m xs
