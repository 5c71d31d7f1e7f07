-- A station: what each call does to it.
use Rattle.std.specs.Prelude.{ℕ, ◌*◌, Bool, true, false, cond, not, List, [], ◌∷◌, map, Some, None, Option, nat_lt}
use Rattle.label.specs.declared.refusal.Refusal.{Refusal}
use Rattle.label.specs.declared.refusal.Refusal.TheVariants.{ItemStarted, NoItemRuns, LabelDoesNotFit, OtherText, SmallBuffer}
use Rattle.label.specs.declared.tag.ItemBits.{ItemBits}
use Rattle.label.specs.Drafts.{matches, left}
use Rattle.label.specs.Label.{Label, Outline, label_of}
use Rattle.carrier.specs.Meaning.{Meaning}
use Rattle.carrier.specs.Writing.{Writing}
use Rattle.agreement.specs.Calls.{Call, start, end, send, Made}

-- the station's variables: the message toggle of the next label, the item bits, and whether an item was started since the last sent label
pub record Vars : Type 0 where
  pub toggle : Bool
  pub item : ItemBits
  pub since : Bool

abbrev pub new_vars : Vars
new_vars = record { toggle = false; item = record { toggle = false; running = false }; since = false }

-- why a label is not sent, the smallest number that applies; each frame takes 21 bytes of the buffer
abbrev pub send_refusal : Writing → Outline → List ℕ → ℕ → Option Refusal
send_refusal w o text room =
    cond (not (w.fits o)) (Some LabelDoesNotFit)
    (cond (not (matches o text)) (Some OtherText)
    (cond (nat_lt room (21 * w.count o)) (Some SmallBuffer) None))

abbrev pub call_refusal : {S : Type 0} → Meaning S → Vars → Call → ℕ → Option Refusal
call_refusal m s start room = cond s.since (Some ItemStarted) None
call_refusal m s end room = cond s.item.running None (Some NoItemRuns)
call_refusal m s (send x text) room = send_refusal m.writing x.outline text room

-- what an accepted call leaves
abbrev pub call_vars : Vars → Call → Vars
call_vars s start = record { toggle = s.toggle; item = record { toggle = not s.item.toggle; running = true }; since = true }
call_vars s end = record { toggle = s.toggle; item = record { toggle = s.item.toggle; running = false }; since = s.since }
call_vars s (send x text) = record { toggle = not s.toggle; item = s.item; since = false }

abbrev pub call_step : {S : Type 0} → Meaning S → Vars → Made → Vars
call_step m s a = left (call_refusal m s a.call a.room) (call_vars s a.call) s

-- what a station on a carrier answers to the calls
unfoldable pub replies : {S : Type 0} → Meaning S → Vars → List Made → List (Option Refusal)
replies m s [] = []
replies m s (a ∷ ms) = call_refusal m s a.call a.room ∷ replies m (call_step m s a) ms

-- its variables after them
unfoldable pub vars_after : {S : Type 0} → Meaning S → Vars → List Made → Vars
vars_after m s [] = s
vars_after m s (a ∷ ms) = vars_after m (call_step m s a) ms

-- a label on the air, with its message toggle
pub record Aired : Type 0 where
  pub label : Label
  pub toggle : Bool

abbrev pub labels : List Aired → List Label
labels xs = map (λ x. x.label) xs

-- what an accepted call puts on the air, before what comes later
abbrev pub puts_out : Vars → Call → List Aired → List Aired
puts_out s start xs = xs
puts_out s end xs = xs
puts_out s (send x text) xs = record { label = label_of x.outline s.item text; toggle = s.toggle } ∷ xs

-- the labels that it sends, one after another
unfoldable pub aired : {S : Type 0} → Meaning S → Vars → List Made → List Aired
aired m s [] = []
aired m s (a ∷ ms) = left (call_refusal m s a.call a.room) (puts_out s a.call (aired m (call_step m s a) ms)) (aired m (call_step m s a) ms)
