-- Rules 1 to 3 over any labels give what the history says, whatever their item bits.
use Rattle.std.proofs.Common.{◌≡◌, ℕ, ◌≤◌, Bool, true, false, cond, not, ◌&&◌, ◌||◌, List, [], ◌∷◌, ◌++◌, reverse, length, Some, None, Option, sym, refl, ap, ◌∙◌, subst, inl, inr, arith}
use mathlib.Core.List.{reverse_aux}
use mathlib.Core.Bool.{beq}
use Rattle.std.proofs.lemmas.List.{reverse-append, reverse-reverse, length-reverse}
use Rattle.label.specs.Classes.{item_class}
use Rattle.label.specs.Label.{Label, marked, is_deletion, item_deletion}
use Rattle.label.specs.Tags.{deletion}
use Rattle.agreement.specs.Holds.{Unnamed, HoldsLast, RunsWith, OneItem, RunningItem, NoItemDeletion, FromDeletion, Counted, HoldsOfItem, Holds}
use Rattle.agreement.specs.Rules.{Table, empty, emptied, breaks, stored, by_rules, on_label, on_labels}

-- In this file ns, ms and xs are labels with the latest first.

by_mark : Option (List ℕ) → List ℕ → List ℕ
by_mark None old = old
by_mark (Some p) old = cond (deletion p) [] p

last_part : ℕ → List Label → List ℕ
last_part c [] = []
last_part c (l ∷ ms) = by_mark (marked l c) (last_part c ms)

-- the labels from the latest back, as long as they run with the toggle t
row_with : Bool → List Label → List Label
row_with t [] = []
row_with t (l ∷ ms) = cond (beq l.item.toggle t && l.item.running) (l ∷ row_with t ms) []

row_of : List Label → List Label
row_of [] = []
row_of (l ∷ ms) = row_with l.item.toggle (l ∷ ms)

-- the labels from the latest back to one with an Item deletion on
counted_of : List Label → List Label
counted_of [] = []
counted_of (l ∷ ms) = l ∷ cond (item_deletion l) [] (counted_of ms)

held_of : Bool → ℕ → List Label → List ℕ
held_of b c ns = last_part c (cond b (counted_of (row_of ns)) ns)

-- the rules, latest first
toggle_of : List Label → Option Bool
toggle_of [] = None
toggle_of (l ∷ ns) = Some l.item.toggle

table_of : List Label → Table
table_of [] = empty
table_of (l ∷ ns) = on_label (table_of ns) l

rules : Bool → Option Bool → Label → ℕ → List ℕ → List ℕ
rules b last l c old =
    stored (marked l c) (not b || l.item.running) (emptied (is_deletion (marked l c) || b && item_deletion l) (emptied (b && breaks last l.item) old))

tables_from : (ls ns : List Label) → on_labels (table_of ns) ls ≡ table_of (reverse_aux ls ns)
unfolding on_labels table_of
tables_from [] ns = refl
tables_from (l ∷ ls) ns = tables_from ls (l ∷ ns)

table_toggle : (ns : List Label) → (table_of ns).toggle ≡ toggle_of ns
unfolding table_of toggle_of
table_toggle [] = refl
table_toggle (l ∷ ns) = refl

-- one label, over its marks and bits alone
nil_stays : (b : Bool) → ◌≡◌ {A = List ℕ} (cond b [] []) []
nil_stays true = refl
nil_stays false = refl

part_over : (e d : Bool) (p old : List ℕ) → cond (not e && true) p (cond (e || d) [] old) ≡ cond e [] p
part_over true d p old = refl
part_over false d p old = refl

part_kept : (e d : Bool) (p : List ℕ) → cond (not e && false) p (cond (e || d) [] []) ≡ []
part_kept true d p = refl
part_kept false d p = nil_stays d

running_step : (o : Option (List ℕ)) (d : Bool) (old : List ℕ) → stored o true (emptied (is_deletion o || d) old) ≡ by_mark o (emptied d old)
unfolding by_mark
running_step None d old = refl
running_step (Some p) d old = part_over (deletion p) d p old

idle_step : (o : Option (List ℕ)) (d : Bool) → stored o false (emptied (is_deletion o || d) []) ≡ []
idle_step None d = nil_stays d
idle_step (Some p) d = part_kept (deletion p) d p

item_step : (r : Bool) (o : Option (List ℕ)) (d k : Bool) (old new : List ℕ) → (r ≡ false → emptied k old ≡ []) → (r ≡ true → emptied k old ≡ new)
    → stored o r (emptied (is_deletion o || d) (emptied k old)) ≡ cond r (by_mark o (emptied d new)) []
item_step true o d k old new f g = ap (λ x. stored o true (emptied (is_deletion o || d) x)) (g refl) ∙ running_step o d new
item_step false o d k old new f g = ap (λ x. stored o false (emptied (is_deletion o || d) x)) (f refl) ∙ idle_step o d

-- one label, over the history
beq_self : (t : Bool) → beq t t ≡ true
beq_self true = refl
beq_self false = refl

module _ (c : ℕ) where
  last_cut : (d : Bool) (ms : List Label) → last_part c (cond d [] ms) ≡ emptied d (last_part c ms)
  unfolding last_part
  last_cut true ms = refl
  last_cut false ms = refl

  item_row : (l : Label) (r e : Bool) (ms : List Label) → e ≡ true → last_part c (counted_of (cond (e && r) (l ∷ ms) [])) ≡ cond r (by_mark (marked l c) (emptied (item_deletion l) (last_part c (counted_of ms)))) []
  unfolding last_part counted_of
  item_row l true true ms h = ap (by_mark (marked l c)) (last_cut (item_deletion l) (counted_of ms))
  item_row l false true ms h = refl
  item_row l r false ms h = absurd (let z : ◌≡◌ {A = ℕ} 0 1 = cc in omega arith)

  row_before : (x : Label) (xs : List Label) (t u : Bool)
      → emptied (not (beq t u)) (last_part c (counted_of (cond (beq u u && x.item.running) (x ∷ row_with u xs) []))) ≡ last_part c (counted_of (cond (beq u t && x.item.running) (x ∷ row_with t xs) []))
  unfolding last_part counted_of
  row_before x xs true true = refl
  row_before x xs true false = refl
  row_before x xs false true = refl
  row_before x xs false false = refl

  off_breaks : (r k : Bool) (old : List ℕ) → r ≡ false → emptied (not r || k) old ≡ []
  off_breaks true k old h = absurd (let z : ◌≡◌ {A = ℕ} 0 1 = cc in omega arith)
  off_breaks false k old h = refl

  on_breaks : (r k : Bool) (old : List ℕ) → r ≡ true → emptied (not r || k) old ≡ emptied k old
  on_breaks true k old h = refl
  on_breaks false k old h = absurd (let z : ◌≡◌ {A = ℕ} 0 1 = cc in omega arith)

  off_row : (l : Label) (ns : List Label) → l.item.running ≡ false → emptied (breaks (toggle_of ns) l.item) (held_of true c ns) ≡ []
  unfolding toggle_of
  off_row l [] h = refl
  off_row l (x ∷ xs) h = off_breaks l.item.running (not (beq l.item.toggle x.item.toggle)) (held_of true c (x ∷ xs)) h

  on_row : (l : Label) (ns : List Label) → l.item.running ≡ true → emptied (breaks (toggle_of ns) l.item) (held_of true c ns) ≡ last_part c (counted_of (row_with l.item.toggle ns))
  unfolding toggle_of held_of row_of row_with counted_of last_part
  on_row l [] h = refl
  on_row l (x ∷ xs) h =
      on_breaks l.item.running (not (beq l.item.toggle x.item.toggle)) (held_of true c (x ∷ xs)) h
      ∙ row_before x xs l.item.toggle x.item.toggle

  held_step : (b : Bool) (l : Label) (ns : List Label) → rules b (toggle_of ns) l c (held_of b c ns) ≡ held_of b c (l ∷ ns)
  unfolding rules held_of row_of row_with last_part
  held_step true l ns =
      item_step l.item.running (marked l c) (item_deletion l) (breaks (toggle_of ns) l.item) (held_of true c ns) (last_part c (counted_of (row_with l.item.toggle ns))) (off_row l ns) (on_row l ns)
      ∙ sym (item_row l l.item.running (beq l.item.toggle l.item.toggle) (row_with l.item.toggle ns) (beq_self l.item.toggle))
  held_step false l ns = running_step (marked l c) false (last_part c ns)

  row_held : (ns : List Label) → (table_of ns).row c ≡ held_of (item_class c) c ns
  unfolding table_of held_of row_of counted_of last_part rules
  row_held [] = none (item_class c)
    where
      none : (b : Bool) → [] ≡ last_part c (cond b [] [])
      none true = refl
      none false = refl
  row_held (l ∷ ns) =
      ap (λ t. by_rules t l c ((table_of ns).row c)) (table_toggle ns)
      ∙ ap (by_rules (toggle_of ns) l c) (row_held ns)
      ∙ held_step (item_class c) l ns

rows_held : (ls : List Label) (c : ℕ) → (on_labels empty ls).row c ≡ held_of (item_class c) c (reverse ls)
unfolding table_of
rows_held ls c = ap (λ d. d.row c) (tables_from ls []) ∙ row_held c (reverse ls)

-- the same in the order of sending
from_left : ℕ → List Label → List ℕ → List ℕ
from_left c [] old = old
from_left c (l ∷ ls) old = from_left c ls (by_mark (marked l c) old)

from_latest : (c : ℕ) (ms r : List Label) → from_left c (reverse_aux ms r) [] ≡ from_left c r (last_part c ms)
unfolding from_left last_part
from_latest c [] r = refl
from_latest c (l ∷ ms) r = from_latest c ms (l ∷ r)

left_none : (c : ℕ) (ls : List Label) (old : List ℕ) → Unnamed c ls → from_left c ls old ≡ old
unfolding from_left by_mark
left_none c [] old u = refl
left_none c (l ∷ ls) old u = ap (λ o. from_left c ls (by_mark o old)) u.0 ∙ left_none c ls old u.1

left_some : (c : ℕ) (front back : List Label) (l : Label) (p old : List ℕ) → Unnamed c back → marked l c ≡ Some p → from_left c (front ++ (l ∷ back)) old ≡ cond (deletion p) [] p
unfolding from_left by_mark
left_some c [] back l p old u e = ap (λ o. from_left c back (by_mark o old)) e ∙ left_none c back (cond (deletion p) [] p) u
left_some c (f ∷ fs) back l p old u e = left_some c fs back l p (by_mark (marked f c) old) u e

holds_left : (c : ℕ) (ls : List Label) → HoldsLast c ls (from_left c ls [])
holds_left c ls = record {
  part = λ front back l p e u m d. ap (λ x. from_left c x []) e ∙ left_some c front back l p [] u m ∙ ap (λ b. cond b [] p) d;
  deleted = λ front back l p e u m d. ap (λ x. from_left c x []) e ∙ left_some c front back l p [] u m ∙ ap (λ b. cond b [] p) d;
  none = λ u. left_none c ls [] u;
}

holds_last : (c : ℕ) (ms : List Label) → HoldsLast c (reverse ms) (last_part c ms)
unfolding from_left
holds_last c ms = subst (HoldsLast c (reverse ms)) (from_latest c ms []) (holds_left c (reverse ms))

-- the longest row
row_rest : (t : Bool) (ns : List Label) → (r : List Label) × (ns ≡ row_with t ns ++ r)
unfolding row_with
row_rest t [] = ([], refl)
row_rest t (l ∷ ns) = go (beq l.item.toggle t && l.item.running) (row_rest t ns)
  where
    go : (b : Bool) → (r : List Label) × (ns ≡ row_with t ns ++ r) → (r : List Label) × (l ∷ ns ≡ cond b (l ∷ row_with t ns) [] ++ r)
    go true h = (h.0, ap (λ x. l ∷ x) h.1)
    go false h = (l ∷ ns, refl)

row_runs : (t : Bool) (ns : List Label) → RunsWith t (row_with t ns)
unfolding row_with
row_runs t [] = tt
row_runs t (l ∷ ns) = go l.item.toggle l.item.running t refl refl (row_runs t ns)
  where
    go : (u r t : Bool) → l.item.toggle ≡ u → l.item.running ≡ r → RunsWith t (row_with t ns) → RunsWith t (cond (beq u t && r) (l ∷ row_with t ns) [])
    go true true true e h rest = (h, e, rest)
    go true false true e h rest = tt
    go true r false e h rest = tt
    go false true false e h rest = (h, e, rest)
    go false false false e h rest = tt
    go false r true e h rest = tt

row_longest : (t : Bool) (q r : List Label) → RunsWith t q → length q ≤ length (row_with t (q ++ r))
unfolding row_with
row_longest t [] r h = omega arith
row_longest t (l ∷ q) r h =
    let more = row_longest t q r h.2 in
    let test : (beq l.item.toggle t && l.item.running) ≡ true = ap (λ u. beq u t && l.item.running) h.1 ∙ ap (λ e. e && l.item.running) (beq_self t) ∙ h.0 in
    subst (λ b. length (l ∷ q) ≤ length (cond b (l ∷ row_with t (q ++ r)) [])) (sym test) (omega arith)

item_longest : (q r : List Label) → OneItem q → length q ≤ length (row_of (q ++ r))
unfolding row_of
item_longest [] r h = omega arith
item_longest (l ∷ q) r h = row_longest l.item.toggle (l ∷ q) r (subst (λ t. RunsWith t (l ∷ q)) (sym h.1.1) h.1)

item_rest : (ns : List Label) → (r : List Label) × (ns ≡ row_of ns ++ r)
unfolding row_of
item_rest [] = ([], refl)
item_rest (l ∷ ns) = row_rest l.item.toggle (l ∷ ns)

item_one : (ns : List Label) → OneItem (row_of ns)
unfolding row_of
item_one [] = (true, tt)
item_one (l ∷ ns) = (l.item.toggle, row_runs l.item.toggle (l ∷ ns))

runs_turned : (t : Bool) (xs r : List Label) → RunsWith t xs → RunsWith t r → RunsWith t (reverse_aux xs r)
runs_turned t [] r h g = g
runs_turned t (x ∷ xs) r h g = runs_turned t xs (x ∷ r) h.2 (h.0, h.1, g)

one_turned : (xs : List Label) → OneItem xs → OneItem (reverse xs)
one_turned xs h = (h.0, runs_turned h.0 xs [] h.1 tt)

turned : (xs ys zs : List Label) → xs ≡ ys ++ zs → reverse xs ≡ reverse zs ++ reverse ys
turned xs ys zs e = ap reverse e ∙ reverse-append ys zs

running_item : (ns : List Label) → RunningItem (reverse ns) (reverse (row_of ns))
running_item ns = record {
  before = reverse (item_rest ns).0;
  end = turned ns (row_of ns) (item_rest ns).0 (item_rest ns).1;
  one = one_turned (row_of ns) (item_one ns);
  longest = λ front other e h.
      let n : ns ≡ reverse other ++ reverse front = sym (reverse-reverse ns) ∙ turned (reverse ns) front other e in
      let k : length (reverse other) ≤ length (row_of ns) = subst (λ x. length (reverse other) ≤ length (row_of x)) (sym n) (item_longest (reverse other) (reverse front) (one_turned other h)) in
      omega (arith, length-reverse other, length-reverse (row_of ns));
}

-- the labels that count
deletion_free : (ls : List Label) (l : Label) → NoItemDeletion ls → item_deletion l ≡ false → NoItemDeletion (ls ++ (l ∷ []))
deletion_free [] l h e = (e, tt)
deletion_free (x ∷ xs) l h e = (h.0, deletion_free xs l h.1 e)

one_more : (before ls : List Label) (l : Label) → FromDeletion before ls → item_deletion l ≡ false → FromDeletion before (ls ++ (l ∷ []))
one_more before [] l h e = (inr h, tt)
one_more before (x ∷ xs) l h e = (h.0, deletion_free xs l h.1 e)

counted_rest : (xs : List Label) → (r : List Label) × (xs ≡ counted_of xs ++ r) × FromDeletion (reverse r) (reverse (counted_of xs))
unfolding counted_of
counted_rest [] = ([], refl, refl)
counted_rest (l ∷ xs) = go (item_deletion l) refl (counted_rest xs)
  where
    go : (b : Bool) → item_deletion l ≡ b → (r : List Label) × (xs ≡ counted_of xs ++ r) × FromDeletion (reverse r) (reverse (counted_of xs))
        → (r : List Label) × (l ∷ xs ≡ (l ∷ cond b [] (counted_of xs)) ++ r) × FromDeletion (reverse r) (reverse (l ∷ cond b [] (counted_of xs)))
    go true e h = (xs, refl, (inl e, tt))
    go false e h = (h.0, ap (λ x. l ∷ x) h.1, subst (FromDeletion (reverse h.0)) (sym (reverse-append (l ∷ []) (counted_of xs))) (one_more (reverse h.0) (reverse (counted_of xs)) l h.2 e))

counts : (xs : List Label) → Counted (reverse xs) (reverse (counted_of xs))
counts xs = record {
  before = reverse (counted_rest xs).0;
  end = turned xs (counted_of xs) (counted_rest xs).0 (counted_rest xs).1;
  since = (counted_rest xs).2;
}

held_item : (c : ℕ) (ns : List Label) → HoldsOfItem c (reverse ns) (held_of true c ns)
unfolding held_of
held_item c ns = record {
  row = reverse (row_of ns);
  counted = reverse (counted_of (row_of ns));
  running = running_item ns;
  counts = counts (row_of ns);
  last = holds_last c (counted_of (row_of ns));
}

held_other : (c : ℕ) (ns : List Label) → HoldsLast c (reverse ns) (held_of false c ns)
unfolding held_of
held_other c ns = holds_last c ns

held_holds : (c : ℕ) (ns : List Label) → Holds c (reverse ns) (held_of (item_class c) c ns)
held_holds c ns = record {
  outside = λ e. subst (λ b. HoldsLast c (reverse ns) (held_of b c ns)) (sym e) (held_other c ns);
  inside = λ e. subst (λ b. HoldsOfItem c (reverse ns) (held_of b c ns)) (sym e) (held_item c ns);
}

-- for any labels, whatever their item bits
pub rules_hold : (ls : List Label) (c : ℕ) → Holds c ls ((on_labels empty ls).row c)
rules_hold ls c =
    subst (Holds c ls) (sym (rows_held ls c))
    (subst (λ x. Holds c x (held_of (item_class c) c (reverse ls))) (reverse-reverse ls) (held_holds c (reverse ls)))
