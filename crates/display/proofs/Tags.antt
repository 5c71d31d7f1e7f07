-- A label with one tag more: what it marks, what it deletes and what it stores.
use Rattle.std.proofs.Common.{◌≡◌, ℕ, zero, suc, ◌<◌, Bool, true, false, cond, not, ◌&&◌, ◌||◌, eqb, List, [], ◌∷◌, ◌++◌, length, get_or, take, Some, None, sym, refl, ap, ◌∙◌, subst, ⊎_elim, arith}
use Rattle.std.proofs.lemmas.Bool.{and_parts, both_ways, cases_eq, cases_Bool, eq-eqb, eqb-true, ne_eqb, not-true}
use Rattle.std.proofs.lemmas.Bool.Decides.{nat_tests}
use Rattle.label.specs.declared.tag.Tag.{Tag}
use Rattle.label.specs.Classes.{silent, item_class, item_classes}
use Rattle.label.specs.Label.{Label, part_for, marked, is_deletion, deletes_in, item_deletion}
use Rattle.label.specs.Lawful.{apart, all_apart, lawful_sounding, sealable}
use Rattle.label.specs.Lists.{any, all}
use Rattle.label.specs.Tags.{part, deletion, sounds, lies_in, shares}
use Rattle.label.proofs.Marks.{Without, none_marked}
use Rattle.label.proofs.Sounding.{sounding_all}
use Rattle.agreement.specs.Rules.{emptied, rule_2, rule_3}
use Rattle.display.specs.Held.{empties, is_stored}

-- the label with these tags
abbrev pub tagged : Label → List Tag → Label
tagged l ts = record { text = l.text; tags = ts; item = l.item }

swapped : {X : Type 0} (a b : Bool) (x y z : X) → (a && b) ≡ false → cond a x (cond b y z) ≡ cond b y (cond a x z)
swapped a b x y z e = grind arith

not_both : (a b k : ℕ) → eqb a b ≡ false → (eqb a k && eqb b k) ≡ false
not_both a b k e = grind (arith, nat_tests)

part_more : (text : List ℕ) (ts : List Tag) (t : Tag) (k : ℕ) → Without t.class ts → part_for text (ts ++ t ∷ []) k ≡ cond (eqb t.class k) (Some (part text t)) (part_for text ts k)
part_more text [] t k w = refl
part_more text (x ∷ xs) t k w =
    ap (cond (eqb x.class k) (Some (part text x))) (part_more text xs t k w.1)
    ∙ swapped (eqb x.class k) (eqb t.class k) (Some (part text x)) (Some (part text t)) (part_for text xs k) (not_both x.class t.class k w.0)

-- the tag at a place: it sounds, its part lies in the text, and no tag before it has its class
all_at : (q : Tag → Bool) (ts : List Tag) (i : ℕ) (d : Tag) → i < length ts → all q ts ≡ true → q (get_or ts i d) ≡ true
all_at q [] i d h e = absurd (omega arith)
all_at q (t ∷ ts) zero d h e = (and_parts (q t) (all q ts) e).0
all_at q (t ∷ ts) (suc i) d h e = all_at q ts i d (omega arith) (and_parts (q t) (all q ts) e).1

fresh_at : (ts : List Tag) (i : ℕ) (d : Tag) → i < length ts → all_apart ts ≡ true → Without (get_or ts i d).class (take i ts)
fresh_at [] i d h e = absurd (omega arith)
fresh_at (t ∷ ts) zero d h e = tt
fresh_at (t ∷ ts) (suc i) d h e =
    let p = and_parts (all (apart t) ts) (all_apart ts) e in
    let u = get_or ts i d in
    let a = and_parts (not (eqb t.class u.class)) (not (shares t u)) (all_at (apart t) ts i d (omega arith) p.0) in
    (not-true (eqb t.class u.class) a.0, fresh_at ts i d (omega arith) p.1)

pub record IsNext (n : ℕ) (ts : List Tag) (t : Tag) : Type 0 where
  pub inside : lies_in n t ≡ true
  pub sound : silent t.class ≡ false
  pub fresh : Without t.class ts

pub next_tag : (n : ℕ) (ts : List Tag) (i : ℕ) (d : Tag) → i < length ts → sealable n ts ≡ true → IsNext n (take i ts) (get_or ts i d)
next_tag n ts i d h e =
    let s : all sounds ts ≡ true = grind arith in
    let f : lawful_sounding n ts ≡ true = ap (lawful_sounding n) (sym (sounding_all ts s)) ∙ grind arith in
    record {
      inside = all_at (lies_in n) ts i d h (grind arith);
      sound = not-true (silent (get_or ts i d).class) (all_at sounds ts i d h s);
      fresh = fresh_at ts i d h (grind arith);
    }

or_false : (b : Bool) → b ≡ (b || false)
or_false b = grind arith

gathered : (e d m a r : Bool) → (e && d || m || (a && d || r)) ≡ ((e || a) && d || (m || r))
gathered e d m a r = grind arith

emptied_by : (e d m k t j : Bool) → (e ≡ true → k ≡ t) → (x : List ℕ) → emptied ((e && d || m) || k && (t && d || j)) x ≡ emptied (d && cond t k e) (emptied (m || k && j) x)
emptied_by e d m k t j h x = grind arith

items_among : (c : ℕ) → any (eqb c) item_classes ≡ item_class c
items_among c = grind (arith, nat_tests)

-- without tags
none_marked_in : (l : Label) (k : ℕ) → marked (tagged l []) k ≡ None
unfolding marked
none_marked_in l k = ⊎_elim (λ s. rw s) (λ s. rw s) (cases_Bool (silent k))

none_deleted_in : (l : Label) (cs : List ℕ) → deletes_in (tagged l []) cs ≡ false
unfolding deletes_in
none_deleted_in l [] = refl
none_deleted_in l (c ∷ cs) = rw (none_marked_in l c) (none_deleted_in l cs)

pub none_deleted : (l : Label) (k : ℕ) (old : List ℕ) → rule_2 (tagged l []) k old ≡ old
none_deleted l k old = rw (none_marked_in l k, none_deleted_in l item_classes) (grind arith)

pub none_stored : (l : Label) (k : ℕ) (old : List ℕ) → rule_3 (tagged l []) k old ≡ old
none_stored l k old = rw (none_marked_in l k)

-- with such a tag behind the others
module _ (l : Label) (ts : List Tag) (t : Tag) (next : IsNext (length l.text) ts t) where
  abbrev p : List ℕ
  p = part l.text t

  abbrev d : Bool
  d = deletion (part l.text t)

  abbrev now : Label
  now = tagged l ts

  abbrev more : Label
  more = tagged l (ts ++ t ∷ [])

  marked_more : (k : ℕ) → marked more k ≡ cond (eqb t.class k) (Some p) (marked now k)
  unfolding marked
  marked_more k = ⊎_elim quiet (λ e. rw e (part_more l.text ts t k next.fresh)) (cases_Bool (silent k))
    where
      quiet : silent k ≡ true → cond (silent k) None (part_for l.text (ts ++ t ∷ []) k) ≡ cond (eqb t.class k) (Some p) (cond (silent k) None (part_for l.text ts k))
      quiet e = rw (e, ne_eqb t.class k (λ h. both_ways (silent k) (ap silent (sym h) ∙ next.sound) e))

  none_before : marked now t.class ≡ None
  unfolding marked
  none_before = rw next.sound (none_marked l.text t.class ts next.fresh)

  -- a fact of each class, by its own class and by the others
  of_class : (P : ℕ → Type 0) → P t.class → ((k : ℕ) → eqb t.class k ≡ false → marked more k ≡ marked now k → P k) → (k : ℕ) → P k
  of_class P own other k = ⊎_elim (λ e. subst P e own) (λ n. let z = ne_eqb t.class k n in other k z (rw (marked_more k, z))) (cases_eq t.class k)

  pub stored_more : (old : List ℕ) (k : ℕ) → rule_3 more k old ≡ cond (eqb t.class k && is_stored t.class p l.item.running) p (rule_3 now k old)
  stored_more old =
      of_class (λ k. rule_3 more k old ≡ cond (eqb t.class k && is_stored t.class p l.item.running) p (rule_3 now k old))
      (rw (marked_more t.class, eq-eqb t.class t.class refl, none_before)) (λ k e m. rw (m, e))

  deleted_one : (k : ℕ) → is_deletion (marked more k) ≡ (eqb t.class k && d || is_deletion (marked now k))
  deleted_one = of_class (λ k. is_deletion (marked more k) ≡ (eqb t.class k && d || is_deletion (marked now k))) (rw (marked_more t.class, eq-eqb t.class t.class refl, none_before) (or_false d)) (λ k e m. rw (m, e))

  deletes_more : (cs : List ℕ) → deletes_in more cs ≡ (any (eqb t.class) cs && d || deletes_in now cs)
  unfolding deletes_in
  deletes_more [] = refl
  deletes_more (c ∷ cs) = rw (deleted_one c, deletes_more cs) (gathered (eqb t.class c) d (is_deletion (marked now c)) (any (eqb t.class) cs) (deletes_in now cs))

  pub deleted_more : (old : List ℕ) (k : ℕ) → rule_2 more k old ≡ emptied (d && empties t.class k) (rule_2 now k old)
  deleted_more old k =
      rw (deleted_one k, deletes_more item_classes, items_among t.class)
      (emptied_by (eqb t.class k) d (is_deletion (marked now k)) (item_class k) (item_class t.class) (item_deletion now) (λ e. ap item_class (sym (eqb-true t.class k e))) old)
