-- The history of what was done, the latest first; what is refused and what the bits are, told from it alone.
use Rattle.std.specs.Prelude.{◌≡◌, ℕ, zero, suc, ◌*◌, ◌≤◌, Bool, true, false, cond, not, List, [], ◌∷◌, reverse, length, Some, None, Option}
use Rattle.label.specs.declared.refusal.Refusal.{Refusal}
use Rattle.label.specs.declared.refusal.Refusal.TheVariants.{ItemStarted, NoItemRuns, OtherText}
use Rattle.label.specs.declared.tag.ItemBits.{ItemBits}
use Rattle.label.specs.Drafts.{matches, left}
use Rattle.label.specs.Label.{Label, label_of}
use Rattle.carrier.specs.Meaning.{Meaning}
use Rattle.agreement.specs.Calls.{Call, start, end, send, Made}
use Rattle.agreement.specs.Station.{Vars, Aired, send_refusal}

pub data Event : Type 0 where
  started : Event
  ended : Event
  sent : Label → Event

abbrev pub is_start : Event → Bool
is_start started = true
is_start ended = false
is_start (sent l) = false

abbrev pub is_start_or_end : Event → Bool
is_start_or_end started = true
is_start_or_end ended = true
is_start_or_end (sent l) = false

-- the events that pass a test
unfoldable pub only : (Event → Bool) → List Event → List Event
only p [] = []
only p (e ∷ h) = cond (p e) (e ∷ only p h) (only p h)

-- the events behind the last sent label; all, if no label was sent
unfoldable pub behind_label : List Event → List Event
behind_label [] = []
behind_label (started ∷ h) = started ∷ behind_label h
behind_label (ended ∷ h) = ended ∷ behind_label h
behind_label (sent l ∷ h) = []

abbrev pub some_event : List Event → Bool
some_event [] = false
some_event (e ∷ h) = true

abbrev pub latest_is_start : List Event → Bool
latest_is_start [] = false
latest_is_start (e ∷ h) = is_start e

-- there is a start behind the last sent label
abbrev pub start_since_label : List Event → Bool
start_since_label h = some_event (only is_start (behind_label h))

-- the last start or end is a start
abbrev pub item_runs : List Event → Bool
item_runs h = latest_is_start (only is_start_or_end h)

abbrev pub starts : List Event → ℕ
starts h = length (only is_start h)

-- the labels sent, the latest first
unfoldable pub labels_back : List Event → List Label
labels_back [] = []
labels_back (started ∷ h) = labels_back h
labels_back (ended ∷ h) = labels_back h
labels_back (sent l ∷ h) = l ∷ labels_back h

-- the labels sent, in their order
abbrev pub sent_labels : List Event → List Label
sent_labels h = reverse (labels_back h)

unfoldable pub odd : ℕ → Bool
odd zero = false
odd (suc n) = not (odd n)

-- the item bits: the parity of the starts, and whether an item runs
abbrev pub item_bits : List Event → ItemBits
item_bits h = record { toggle = odd (starts h); running = item_runs h }

-- the message toggle of the next label: the parity of the labels sent
abbrev pub message_toggle : List Event → Bool
message_toggle h = odd (length (labels_back h))

-- what is refused, where labels fit and buffers are large enough
abbrev pub refusal : List Event → Call → Option Refusal
refusal h start = cond (start_since_label h) (Some ItemStarted) None
refusal h end = cond (item_runs h) None (Some NoItemRuns)
refusal h (send x text) = cond (matches x.outline text) None (Some OtherText)

-- what is refused on a carrier
abbrev pub refusal_on : {S : Type 0} → Meaning S → List Event → Call → ℕ → Option Refusal
refusal_on m h start room = refusal h start
refusal_on m h end room = refusal h end
refusal_on m h (send x text) room = send_refusal m.writing x.outline text room

-- what an accepted call does
abbrev pub event : List Event → Call → Event
event h start = started
event h end = ended
event h (send x text) = sent (label_of x.outline (item_bits h) text)

-- the history after the calls
unfoldable pub history : List Event → List Call → List Event
history h [] = h
history h (c ∷ cs) = history (left (refusal h c) (event h c ∷ h) h) cs

unfoldable pub history_on : {S : Type 0} → Meaning S → List Event → List Made → List Event
history_on m h [] = h
history_on m h (a ∷ ms) = history_on m (left (refusal_on m h a.call a.room) (event h a.call ∷ h) h) ms

-- the refusals of the calls
unfoldable pub refusals : List Event → List Call → List (Option Refusal)
refusals h [] = []
refusals h (c ∷ cs) = refusal h c ∷ refusals (left (refusal h c) (event h c ∷ h) h) cs

unfoldable pub refusals_on : {S : Type 0} → Meaning S → List Event → List Made → List (Option Refusal)
refusals_on m h [] = []
refusals_on m h (a ∷ ms) = refusal_on m h a.call a.room ∷ refusals_on m (left (refusal_on m h a.call a.room) (event h a.call ∷ h) h) ms

-- the sent labels with their message toggles, the latest first
unfoldable pub aired_back : List Event → List Aired
aired_back [] = []
aired_back (started ∷ h) = aired_back h
aired_back (ended ∷ h) = aired_back h
aired_back (sent l ∷ h) = record { label = l; toggle = message_toggle h } ∷ aired_back h

-- what the history puts on the air, in its order
abbrev pub aired_by : List Event → List Aired
aired_by h = reverse (aired_back h)

-- the station's variables, each told from the history
abbrev pub vars_of : List Event → Vars
vars_of h = record { toggle = message_toggle h; item = item_bits h; since = start_since_label h }

-- the label of a sending fits, and the buffer is large enough unless the text is another
abbrev pub Enough : {S : Type 0} → Meaning S → Call → ℕ → Type 0
Enough m start room = Unit {0}
Enough m end room = Unit {0}
Enough m (send x text) room = (m.writing.fits x.outline ≡ true) × (matches x.outline text ≡ true → 21 * m.writing.count x.outline ≤ room)

abbrev pub Ample : {S : Type 0} → Meaning S → List Made → Type 0
Ample m [] = Unit {0}
Ample m (a ∷ ms) = Enough m a.call a.room × Ample m ms
