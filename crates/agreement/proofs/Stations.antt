-- A station's variables are what the history says, for every list of calls.
use Rattle.std.proofs.Common.{◌≡◌, ℕ, ◌*◌, ◌≤◌, Bool, true, false, cond, not, ltb, List, [], ◌∷◌, reverse, Some, None, Option, refl, ap, ◌∙◌}
use mathlib.Core.List.{reverse_aux}
use Rattle.std.proofs.lemmas.Bool.{le-ltb}
use Rattle.label.specs.declared.refusal.Refusal.{Refusal}
use Rattle.label.specs.declared.refusal.Refusal.TheVariants.{LabelDoesNotFit, OtherText, SmallBuffer}
use Rattle.label.specs.Drafts.{matches, left}
use Rattle.carrier.specs.Meaning.{Meaning}
use Rattle.agreement.specs.Calls.{Call, start, end, send, Made, calls}
use Rattle.agreement.specs.History.{Event, started, ended, sent, only, behind_label, labels_back, sent_labels, odd, refusal, refusal_on, event, history, history_on, refusals, refusals_on, aired_back, aired_by, vars_of, Enough, Ample}
use Rattle.agreement.specs.Station.{new_vars, call_refusal, call_vars, call_step, replies, vars_after, Aired, labels, puts_out, aired}

left_ap : {X Y : Type 0} (f : X → Y) (o : Option Refusal) {y : Y} (new old : X) → y ≡ f new → left o y (f old) ≡ f (left o new old)
left_ap f None new old e = e
left_ap f (Some x) new old e = refl

room_enough : (b : Bool) (room need : ℕ) → (b ≡ true → need ≤ room) → cond (not b) (Some OtherText) (cond (ltb room need) (Some SmallBuffer) None) ≡ cond b None (Some OtherText)
room_enough true room need h = ap (λ t. cond t (Some SmallBuffer) None) (le-ltb room need (h refl))
room_enough false room need h = refl

module _ {S : Type 0} (m : Meaning S) where
  later : List Event → Made → List Event
  later h a = left (refusal_on m h a.call a.room) (event h a.call ∷ h) h

  same_refusal : (h : List Event) (c : Call) (room : ℕ) → call_refusal m (vars_of h) c room ≡ refusal_on m h c room
  same_refusal h start room = refl
  same_refusal h end room = refl
  same_refusal h (send x text) room = refl

  vars_event : (h : List Event) (c : Call) → call_vars (vars_of h) c ≡ vars_of (event h c ∷ h)
  unfolding only behind_label labels_back odd
  vars_event h start = refl
  vars_event h end = refl
  vars_event h (send x text) = refl

  vars_step : (h : List Event) (a : Made) → call_step m (vars_of h) a ≡ vars_of (later h a)
  unfolding later
  vars_step h a =
      ap (λ o. left o (call_vars (vars_of h) a.call) (vars_of h)) (same_refusal h a.call a.room)
      ∙ left_ap vars_of (refusal_on m h a.call a.room) (event h a.call ∷ h) h (vars_event h a.call)

  pub vars_told : (ms : List Made) (h : List Event) → vars_after m (vars_of h) ms ≡ vars_of (history_on m h ms)
  unfolding vars_after history_on later
  vars_told [] h = refl
  vars_told (a ∷ ms) h = ap (λ s. vars_after m s ms) (vars_step h a) ∙ vars_told ms (later h a)

  pub replies_told : (ms : List Made) (h : List Event) → replies m (vars_of h) ms ≡ refusals_on m h ms
  unfolding replies refusals_on later
  replies_told [] h = refl
  replies_told (a ∷ ms) h =
      ap (λ s. call_refusal m (vars_of h) a.call a.room ∷ replies m s ms) (vars_step h a)
      ∙ ap (λ o. o ∷ replies m (vars_of (later h a)) ms) (same_refusal h a.call a.room)
      ∙ ap (λ os. refusal_on m h a.call a.room ∷ os) (replies_told ms (later h a))

  -- what is on the air is what the history says
  aired_step : (h : List Event) (c : Call) (o : Option Refusal) (xs : List Aired)
      → reverse_aux (aired_back h) (left o (puts_out (vars_of h) c xs) xs) ≡ reverse_aux (aired_back (left o (event h c ∷ h) h)) xs
  unfolding aired_back
  aired_step h start None xs = refl
  aired_step h end None xs = refl
  aired_step h (send x text) None xs = refl
  aired_step h start (Some e) xs = refl
  aired_step h end (Some e) xs = refl
  aired_step h (send x text) (Some e) xs = refl

  aired_from : (ms : List Made) (h : List Event) → reverse_aux (aired_back h) (aired m (vars_of h) ms) ≡ aired_by (history_on m h ms)
  unfolding aired history_on later
  aired_from [] h = refl
  aired_from (a ∷ ms) h =
      ap (λ o. reverse_aux (aired_back h) (left o (puts_out (vars_of h) a.call (aired m (call_step m (vars_of h) a) ms)) (aired m (call_step m (vars_of h) a) ms))) (same_refusal h a.call a.room)
      ∙ aired_step h a.call (refusal_on m h a.call a.room) (aired m (call_step m (vars_of h) a) ms)
      ∙ ap (λ s. reverse_aux (aired_back (later h a)) (aired m s ms)) (vars_step h a)
      ∙ aired_from ms (later h a)

  -- where labels fit and buffers are large enough
  refusal_ample : (h : List Event) (c : Call) (room : ℕ) → Enough m c room → refusal_on m h c room ≡ refusal h c
  refusal_ample h start room e = refl
  refusal_ample h end room e = refl
  refusal_ample h (send x text) room e =
      ap (λ b. cond (not b) (Some LabelDoesNotFit) (cond (not (matches x.outline text)) (Some OtherText) (cond (ltb room (21 * m.writing.count x.outline)) (Some SmallBuffer) None))) e.0
      ∙ room_enough (matches x.outline text) room (21 * m.writing.count x.outline) e.1

  pub refusals_ample : (ms : List Made) (h : List Event) → Ample m ms → refusals_on m h ms ≡ refusals h (calls ms)
  unfolding refusals_on refusals later
  refusals_ample [] h e = refl
  refusals_ample (a ∷ ms) h e =
      ap (λ os. refusal_on m h a.call a.room ∷ os) (refusals_ample ms (later h a) e.1)
      ∙ ap (λ o. o ∷ refusals (left o (event h a.call ∷ h) h) (calls ms)) (refusal_ample h a.call a.room e.0)

  pub history_ample : (ms : List Made) (h : List Event) → Ample m ms → history_on m h ms ≡ history h (calls ms)
  unfolding history_on history later
  history_ample [] h e = refl
  history_ample (a ∷ ms) h e =
      history_ample ms (later h a) e.1
      ∙ ap (λ o. history (left o (event h a.call ∷ h) h) (calls ms)) (refusal_ample h a.call a.room e.0)

  new_told : new_vars ≡ vars_of []
  unfolding only behind_label labels_back odd
  new_told = refl

  pub replies_new : (ms : List Made) → replies m new_vars ms ≡ refusals_on m [] ms
  replies_new ms = ap (λ s. replies m s ms) new_told ∙ replies_told ms []

  pub vars_new : (ms : List Made) → vars_after m new_vars ms ≡ vars_of (history_on m [] ms)
  vars_new ms = ap (λ s. vars_after m s ms) new_told ∙ vars_told ms []

  pub aired_new : (ms : List Made) → aired m new_vars ms ≡ aired_by (history_on m [] ms)
  unfolding aired_back
  aired_new ms = ap (λ s. aired m s ms) new_told ∙ aired_from ms []

-- and its labels are the sent ones
labels_turned : (xs ys : List Aired) → labels (reverse_aux xs ys) ≡ reverse_aux (labels xs) (labels ys)
labels_turned [] ys = refl
labels_turned (x ∷ xs) ys = labels_turned xs (x ∷ ys)

back_labels : (h : List Event) → labels (aired_back h) ≡ labels_back h
unfolding aired_back labels_back
back_labels [] = refl
back_labels (started ∷ h) = back_labels h
back_labels (ended ∷ h) = back_labels h
back_labels (sent l ∷ h) = ap (λ ls. l ∷ ls) (back_labels h)

pub labels_by : (h : List Event) → labels (aired_by h) ≡ sent_labels h
labels_by h = labels_turned (aired_back h) [] ∙ ap reverse (back_labels h)
