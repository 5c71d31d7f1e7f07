-- A tag that is not refused keeps a draft's list lawful.
use Rattle.std.proofs.Common.{◌≡◌, ℕ, ◌<◌, ◌≤◌, Bool, true, false, cond, not, ◌&&◌, ◌||◌, leb, List, [], ◌∷◌, ◌++◌, length, Some, None, Option, sym, refl, ap, ◌∙◌, arith}
use Rattle.std.proofs.lemmas.List.{length-append}
use Rattle.std.proofs.lemmas.Bool.{or_parts, and_parts, and_from, leb-false, le-leb}
use Rattle.std.proofs.lemmas.Bool.Decides.{nat_tests}
use Rattle.label.specs.declared.refusal.Refusal.{Refusal}
use Rattle.label.specs.declared.tag.Tag.{Tag}
use Rattle.label.specs.Lists.{any, all}
use Rattle.label.specs.Tags.{lies_in, sounds, shares, of_class, is_descriptor, is_other}
use Rattle.label.specs.Lawful.{apart, all_apart, accompanied, lawful_sounding, lawful, sealable}
use Rattle.label.specs.Drafts.{tagging_refusal}
use Rattle.label.proofs.Sounding.{sounding_all}

pub any_push : {X : Type 0} (p : X → Bool) (xs : List X) (x : X) → any p (xs ++ (x ∷ [])) ≡ (any p xs || p x)
any_push p [] x = elim (p x) as (λ b. (b || false) ≡ b) [ true ↦ refl | false ↦ refl ]
any_push p (y ∷ xs) x = elim (p y) as (λ b. (b || any p (xs ++ (x ∷ []))) ≡ ((b || any p xs) || p x)) [ true ↦ refl | false ↦ any_push p xs x ]

pub all_push : {X : Type 0} (p : X → Bool) (xs : List X) (x : X) → all p (xs ++ (x ∷ [])) ≡ (all p xs && p x)
all_push p [] x = elim (p x) as (λ b. (b && true) ≡ b) [ true ↦ refl | false ↦ refl ]
all_push p (y ∷ xs) x = elim (p y) as (λ b. (b && all p (xs ++ (x ∷ []))) ≡ ((b && all p xs) && p x)) [ true ↦ all_push p xs x | false ↦ refl ]

all_pushed : {X : Type 0} (p : X → Bool) (xs : List X) (x : X) → all p xs ≡ true → p x ≡ true → all p (xs ++ (x ∷ [])) ≡ true
all_pushed p xs x h k = all_push p xs x ∙ and_from _ _ h k

pub swap_shares : (t u : Tag) → shares t u ≡ shares u t
swap_shares t u = grind (arith, nat_tests)

pub swap_class : (t u : Tag) → of_class t.class u ≡ of_class u.class t
swap_class t u = grind (arith, nat_tests)

apart_push : (ts : List Tag) (t : Tag) → all_apart ts ≡ true → any (shares t) ts ≡ false → any (of_class t.class) ts ≡ false → all_apart (ts ++ (t ∷ [])) ≡ true
apart_push [] t h s k = refl
apart_push (u ∷ ts) t h s k =
    let sp = or_parts (shares t u) (any (shares t) ts) s in
    let kp = or_parts (of_class t.class u) (any (of_class t.class) ts) k in
    let hp = and_parts (all (apart u) ts) (all_apart ts) h in
    let a : apart u t ≡ true = and_from _ _ (ap not (swap_class u t ∙ kp.0)) (ap not (swap_shares u t ∙ sp.0)) in
    and_from _ _ (all_pushed (apart u) ts t hp.0 a) (apart_push ts t hp.1 sp.1 kp.1)

beside : (x y d o : Bool) → (not x || y) ≡ true → (d && not y) ≡ false → o ≡ not d → (not (x || d) || (y || o)) ≡ true
beside x y d o h k e = grind (arith, nat_tests)

accompanied_push : (ts : List Tag) (t : Tag) → accompanied ts ≡ true → (is_descriptor t && not (any is_other ts)) ≡ false → sounds t ≡ true → accompanied (ts ++ (t ∷ [])) ≡ true
accompanied_push ts t h k s =
    ap (λ b. not b || any is_other (ts ++ (t ∷ []))) (any_push is_descriptor ts t)
    ∙ ap (λ b. not (any is_descriptor ts || is_descriptor t) || b) (any_push is_other ts t)
    ∙ beside (any is_descriptor ts) (any is_other ts) (is_descriptor t) (is_other t) h k (ap (λ b. b && not (is_descriptor t)) s)

-- a refusal that is not given, and what comes behind it
passed : (b : Bool) (e : Refusal) (o : Option Refusal) → cond b (Some e) o ≡ None → (b ≡ false) × (o ≡ None)
passed true e o h = let z : ◌≡◌ {A = ℕ} 0 1 = cc in absurd (omega arith)
passed false e o h = (refl, h)

-- what a tag that is not refused brings
pub record Accepted (n : ℕ) (ts : List Tag) (t : Tag) : Type 0 where
  pub sounding : sounds t ≡ true
  pub inside : lies_in n t ≡ true
  pub parts : any (shares t) ts ≡ false
  pub classes : any (of_class t.class) ts ≡ false
  pub company : (is_descriptor t && not (any is_other ts)) ≡ false
  pub room : length ts < 4

not_not : (b : Bool) → not b ≡ false → b ≡ true
not_not true h = refl
not_not false h = sym h

pub accepted : (n : ℕ) (ts : List Tag) (t : Tag) → tagging_refusal (record { len = n; tags = ts }) t ≡ None → Accepted n ts t
accepted n ts t h =
    let a = passed _ _ _ h in
    let b = passed _ _ _ a.1 in
    let c = passed _ _ _ b.1 in
    let d = passed _ _ _ c.1 in
    let e = passed _ _ _ d.1 in
    let f = passed _ _ _ e.1 in
    record { sounding = ap not a.0; inside = not_not (lies_in n t) b.0; parts = c.0; classes = d.0; company = e.0; room = leb-false 4 (length ts) f.0 }

pub sealable_push : (n : ℕ) (ts : List Tag) (t : Tag) → sealable n ts ≡ true → tagging_refusal (record { len = n; tags = ts }) t ≡ None → sealable n (ts ++ (t ∷ [])) ≡ true
sealable_push n ts t h r =
    let q = accepted n ts t r in
    let p = and_parts _ (lawful n ts) h in
    let s = and_parts (leb (length ts) 4) (all sounds ts) p.0 in
    let w : lawful_sounding n ts ≡ true = ap (lawful_sounding n) (sym (sounding_all ts s.1)) ∙ p.1 in
    let l = and_parts _ (accompanied ts) w in
    let m = and_parts (all (lies_in n) ts) (all_apart ts) l.0 in
    let k : length (ts ++ (t ∷ [])) ≤ 4 = omega (arith, length-append ts (t ∷ []), q.room) in
    let v : all sounds (ts ++ (t ∷ [])) ≡ true = all_pushed sounds ts t s.1 q.sounding in
    and_from _ _ (and_from _ _ (le-leb _ _ k) v)
    (ap (lawful_sounding n) (sounding_all (ts ++ (t ∷ [])) v)
    ∙ and_from _ _ (and_from _ _ (all_pushed (lies_in n) ts t m.0 q.inside) (apart_push ts t m.1 q.parts q.classes)) (accompanied_push ts t l.1 q.company q.sounding))
