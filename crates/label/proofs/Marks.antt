-- Labels that are the same mark the same.
use Rattle.std.proofs.Common.{◌≡◌, ℕ, Bool, true, false, cond, not, ◌&&◌, eqb, leb, ◌⊎◌, List, [], ◌∷◌, length, Some, None, Option, sym, refl, ap, ◌∙◌, inl, inr, ⊎_elim, arith}
use Rattle.std.proofs.lemmas.Bool.{and_parts, and_from, or_cases, or_left, or_right, eq-eqb, eqb-true, not-true, cond-true, cond-false, cases_Bool, ne_eqb, both_ways}
use Rattle.label.specs.declared.tag.Tag.{Tag}
use Rattle.label.specs.Classes.{silent}
use Rattle.label.specs.Lists.{all}
use Rattle.label.specs.Label.{Label, Same, part_for, marked}
use Rattle.label.specs.Lawful.{apart, all_apart, accompanied, lawful, sealable}
use Rattle.label.specs.Tags.{part, lies_in, shares, of_class, sounds, sounding, same_tag, has}

tag_is : (t u : Tag) → same_tag t u ≡ true → t ≡ u
tag_is t u e =
    let p = and_parts (eqb t.class u.class && eqb t.start u.start) (eqb t.extent u.extent) e in
    let q = and_parts (eqb t.class u.class) (eqb t.start u.start) p.0 in
    let a = eqb-true t.class u.class q.0 in
    let b = eqb-true t.start u.start q.1 in
    let c = eqb-true t.extent u.extent p.1 in
    λ i. record { class = a i; start = b i; extent = c i }

tag_same : (t : Tag) → same_tag t t ≡ true
tag_same t = and_from _ _ (and_from _ _ (eq-eqb t.class t.class refl) (eq-eqb t.start t.start refl)) (eq-eqb t.extent t.extent refl)

-- no tag of the list has the class
abbrev pub Without : ℕ → List Tag → Type 0
Without c [] = Unit {0}
Without c (t ∷ ts) = (eqb t.class c ≡ false) × Without c ts

-- a tag of the class, or none
find : (c : ℕ) (ts : List Tag) → ((t : Tag) × (has t ts ≡ true) × (t.class ≡ c)) ⊎ Without c ts
find c [] = inr tt
find c (t ∷ ts) =
    ⊎_elim (λ e. inl (t, or_left (same_tag t t) (has t ts) (tag_same t), eqb-true t.class c e))
    (λ e. ⊎_elim (λ x. inl (x.0, or_right (same_tag x.0 t) (has x.0 ts) x.1, x.2)) (λ x. inr (e, x)) (find c ts)) (cases_Bool (eqb t.class c))

pub none_marked : (x : List ℕ) (c : ℕ) (ts : List Tag) → Without c ts → part_for x ts c ≡ None
none_marked x c [] w = refl
none_marked x c (t ∷ ts) w = cond-false (eqb t.class c) (Some (part x t)) (part_for x ts c) w.0 ∙ none_marked x c ts w.1

not_in : (c : ℕ) (t : Tag) (ts : List Tag) → Without c ts → has t ts ≡ true → t.class ≡ c → ⊥
not_in c t [] w h e = let z : ◌≡◌ {A = ℕ} 0 1 = cc in omega arith
not_in c t (u ∷ us) w h e =
    ⊎_elim (λ y. both_ways (eqb u.class c) w.0 (eq-eqb u.class c (ap (λ v. v.class) (sym (tag_is t u y)) ∙ e))) (λ y. not_in c t us w.1 y e) (or_cases (same_tag t u) (has t us) h)

-- what comes behind a tag has other classes
pub others : (t : Tag) (us : List Tag) → all (apart t) us ≡ true → Without t.class us
others t [] e = tt
others t (u ∷ us) e =
    let p = and_parts (apart t u) (all (apart t) us) e in
    let q = and_parts (not (of_class t.class u)) (not (shares t u)) p.0 in
    let n = not-true (eqb t.class u.class) q.0 in
    (ne_eqb u.class t.class (λ z. both_ways (eqb t.class u.class) n (eq-eqb t.class u.class (sym z))), others t us p.1)

-- in a lawful list a class has one tag
unique : (ts : List Tag) → all_apart ts ≡ true → (t u : Tag) → has t ts ≡ true → has u ts ≡ true → t.class ≡ u.class → t ≡ u
unique [] a t u h k e = let z : ◌≡◌ {A = ℕ} 0 1 = cc in absurd (omega arith)
unique (v ∷ vs) a t u h k e =
    let p = and_parts (all (apart v) vs) (all_apart vs) a in
    let w = others v vs p.0 in
    ⊎_elim
    (λ x. let tv = tag_is t v x in
    ⊎_elim (λ y. tv ∙ sym (tag_is u v y)) (λ y. absurd (not_in v.class u vs w y (sym e ∙ ap (λ z. z.class) tv))) (or_cases (same_tag u v) (has u vs) k))
    (λ x. ⊎_elim (λ y. absurd (not_in v.class t vs w x (e ∙ ap (λ z. z.class) (tag_is u v y)))) (λ y. unique vs p.1 t u x y e) (or_cases (same_tag u v) (has u vs) k))
    (or_cases (same_tag t v) (has t vs) h)

-- the first tag of the class is the only one
one_marked : (x : List ℕ) (c : ℕ) (t : Tag) (ts : List Tag) → ((u : Tag) → has u ts ≡ true → u.class ≡ c → u ≡ t) → t.class ≡ c → has t ts ≡ true → part_for x ts c ≡ Some (part x t)
one_marked x c t [] only e h = let z : ◌≡◌ {A = ℕ} 0 1 = cc in absurd (omega arith)
one_marked x c t (u ∷ us) only e h =
    ⊎_elim
    (λ y. cond-true (eqb u.class c) (Some (part x u)) (part_for x us c) y ∙ ap (λ v. Some (part x v)) (only u (or_left (same_tag u u) (has u us) (tag_same u)) (eqb-true u.class c y)))
    (λ y. cond-false (eqb u.class c) (Some (part x u)) (part_for x us c) y
    ∙ one_marked x c t us (λ v k. only v (or_right (same_tag v u) (has v us) k)) e
    (⊎_elim (λ k. absurd (both_ways (eqb u.class c) y (eq-eqb u.class c (ap (λ v. v.class) (sym (tag_is t u k)) ∙ e)))) (λ k. k) (or_cases (same_tag t u) (has t us) h)))
    (cases_Bool (eqb u.class c))

module _ (x : List ℕ) (c : ℕ) (ts us : List Tag) (au : all_apart us ≡ true) (same : (t : Tag) → has t ts ≡ has t us) where
  parts_same : part_for x ts c ≡ part_for x us c
  parts_same =
      ⊎_elim
      (λ f. let own : (u : Tag) → has u us ≡ true → u.class ≡ c → u ≡ f.0 = λ u h e. unique us au u f.0 h f.1 (e ∙ sym f.2) in
      one_marked x c f.0 ts (λ u h e. own u (sym (same u) ∙ h) e) f.2 (same f.0 ∙ f.1)
      ∙ sym (one_marked x c f.0 us own f.2 f.1))
      (λ w. ⊎_elim
      (λ f. absurd (not_in c f.0 us w (sym (same f.0) ∙ f.1) f.2))
      (λ v. none_marked x c ts v ∙ sym (none_marked x c us w)) (find c ts))
      (find c us)

pub sealable_apart : (n : ℕ) (ts : List Tag) → sealable n ts ≡ true → all_apart (sounding ts) ≡ true
sealable_apart n ts e =
    let w = (and_parts (leb (length ts) 4 && all sounds ts) (lawful n ts) e).1 in
    let l = (and_parts (all (lies_in n) (sounding ts) && all_apart (sounding ts)) (accompanied (sounding ts)) w).0 in
    (and_parts (all (lies_in n) (sounding ts)) (all_apart (sounding ts)) l).1

-- silent tags mark nothing, so they may be left out
part_step : (s k : Bool) (p r q : Option (List ℕ)) → (s ≡ true → k ≡ false) → r ≡ q → cond k p r ≡ cond s q (cond k p q)
part_step true true p r q g e = absurd (let z : ◌≡◌ {A = ℕ} 0 1 = cc (g refl) in omega arith)
part_step true false p r q g e = e
part_step false true p r q g e = refl
part_step false false p r q g e = e

loud_class : (t : Tag) (c : ℕ) → silent c ≡ false → silent t.class ≡ true → eqb t.class c ≡ false
loud_class t c h s = ne_eqb t.class c (λ e. both_ways (silent c) h (ap silent (sym e) ∙ s))

sounding_part : (x : List ℕ) (c : ℕ) → silent c ≡ false → (ts : List Tag) → part_for x ts c ≡ part_for x (sounding ts) c
sounding_part x c h [] = refl
sounding_part x c h (t ∷ ts) =
    part_step (silent t.class) (eqb t.class c) (Some (part x t)) (part_for x ts c) (part_for x (sounding ts) c) (loud_class t c h) (sounding_part x c h ts)
    ∙ elim (silent t.class) as (λ b. cond b (part_for x (sounding ts) c) (cond (eqb t.class c) (Some (part x t)) (part_for x (sounding ts) c)) ≡ part_for x (cond b (sounding ts) (t ∷ sounding ts)) c)
    [ true ↦ refl | false ↦ refl ]

-- what is the same as a sealed label marks the same for each class
pub same_marks : (x l : Label) → sealable (length l.text) l.tags ≡ true → Same x l → (c : ℕ) → marked x c ≡ marked l c
unfolding marked
same_marks x l q s c = go (silent c) refl
  where
    go : (b : Bool) → silent c ≡ b → cond b None (part_for x.text x.tags c) ≡ cond b None (part_for l.text l.tags c)
    go true e = refl
    go false e =
        sounding_part x.text c e x.tags
        ∙ ap (λ y. part_for y (sounding x.tags) c) s.text
        ∙ parts_same l.text c (sounding x.tags) (sounding l.tags) (sealable_apart (length l.text) l.tags q) s.tags
        ∙ sym (sounding_part l.text c e l.tags)
