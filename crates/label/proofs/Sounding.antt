-- Silent tags may be left out of a list, or passed over one by one.
use Rattle.std.proofs.Common.{◌≡◌, ℕ, ◌+◌, ◌<◌, ◌≤◌, Bool, true, false, cond, not, ◌&&◌, ◌||◌, List, [], ◌∷◌, length, get_or, drop, sym, refl, ap, ◌∙◌, arith}
use Rattle.label.specs.Classes.{silent}
use Rattle.std.proofs.lemmas.List.{drop_more, drop_all}
use Rattle.std.proofs.lemmas.Bool.{and_parts, and_from, not-true, le-leb}
use Rattle.std.proofs.lemmas.Bool.Decides.{nat_tests}
use Rattle.label.specs.declared.tag.Tag.{Tag}
use Rattle.label.specs.Lists.{any, all}
use Rattle.label.specs.Tags.{sounds, sounding, is_descriptor, is_other}
use Rattle.label.specs.Lawful.{apart, all_apart, accompanied, lawful_sounding, lawful, sealable}

pub any_sounding : (p : Tag → Bool) (ts : List Tag) → any (λ t. sounds t && p t) ts ≡ any p (sounding ts)
any_sounding p [] = refl
any_sounding p (t ∷ ts) =
    elim (silent t.class) as (λ b. ((not b && p t) || any (λ u. sounds u && p u) ts) ≡ any p (cond b (sounding ts) (t ∷ sounding ts)))
    [ true ↦ any_sounding p ts | false ↦ ap (λ b. p t || b) (any_sounding p ts) ]

not_or : (a b : Bool) → not (a || b) ≡ (not a && not b)
not_or true b = refl
not_or false b = refl

pub all_not_any : (q : Tag → Bool) (ts : List Tag) → all q ts ≡ not (any (λ t. not (q t)) ts)
all_not_any q [] = refl
all_not_any q (t ∷ ts) =
    ap (λ b. q t && b) (all_not_any q ts)
    ∙ elim (q t) as (λ b. (b && not (any (λ u. not (q u)) ts)) ≡ not (not b || any (λ u. not (q u)) ts)) [ true ↦ refl | false ↦ refl ]

pub all_sounding : (q : Tag → Bool) (ts : List Tag) → not (any (λ t. sounds t && not (q t)) ts) ≡ all q (sounding ts)
all_sounding q ts = ap not (any_sounding (λ t. not (q t)) ts) ∙ sym (all_not_any q (sounding ts))

any_kept : (p : Tag → Bool) → ((t : Tag) → p t ≡ (sounds t && p t)) → (ts : List Tag) → any p ts ≡ any p (sounding ts)
any_kept p h [] = refl
any_kept p h (t ∷ ts) =
    ap (λ b. b || any p ts) (h t)
    ∙ elim (silent t.class) as (λ b. ((not b && p t) || any p ts) ≡ any p (cond b (sounding ts) (t ∷ sounding ts)))
    [ true ↦ any_kept p h ts | false ↦ ap (λ b. p t || b) (any_kept p h ts) ]

descriptor_sounds : (t : Tag) → is_descriptor t ≡ (sounds t && is_descriptor t)
descriptor_sounds t = grind (arith, nat_tests)

twice : (a b : Bool) → (a && b) ≡ (a && (a && b))
twice true b = refl
twice false b = refl

pub accompanied_sounding : (ts : List Tag) → accompanied ts ≡ accompanied (sounding ts)
accompanied_sounding ts =
    ap (λ b. not b || any is_other ts) (any_kept is_descriptor descriptor_sounds ts)
    ∙ ap (λ b. not (any is_descriptor (sounding ts)) || b) (any_kept is_other (λ t. twice (sounds t) _) ts)

-- one tag and those behind it
pub apart_step : (t : Tag) (ts : List Tag) → all_apart (sounding (t ∷ ts)) ≡ (not (sounds t && any (λ u. sounds u && not (apart t u)) ts) && all_apart (sounding ts))
apart_step t ts =
    elim (silent t.class) as (λ b. all_apart (cond b (sounding ts) (t ∷ sounding ts)) ≡ (not (not b && any (λ u. sounds u && not (apart t u)) ts) && all_apart (sounding ts)))
    [ true ↦ refl | false ↦ ap (λ b. b && all_apart (sounding ts)) (sym (all_sounding (apart t) ts)) ]

-- a loop over the tags: from here on, where `rest` is what lies behind the tag at i, and `b` whether it clashes with that
pub apart_from_here : (ts : List Tag) (i : ℕ) (d : Tag) (rest : List Tag) {b : Bool} → all_apart (sounding ts) ≡ all_apart (sounding (drop i ts)) → i < length ts → rest ≡ drop (i + 1) ts
    → (sounds (get_or ts i d) && any (λ u. sounds u && not (apart (get_or ts i d) u)) rest) ≡ b → all_apart (sounding ts) ≡ (not b && all_apart (sounding (drop (i + 1) ts)))
apart_from_here ts i d rest inv lt e h =
    inv ∙ ap (λ xs. all_apart (sounding xs)) (drop_more ts i d lt) ∙ apart_step (get_or ts i d) (drop (i + 1) ts)
    ∙ ap (λ b. not b && all_apart (sounding (drop (i + 1) ts))) (ap (λ xs. sounds (get_or ts i d) && any (λ u. sounds u && not (apart (get_or ts i d) u)) xs) (sym e) ∙ h)

pub apart_at_end : (ts : List Tag) (i : ℕ) → all_apart (sounding ts) ≡ all_apart (sounding (drop i ts)) → length ts ≤ i → all_apart (sounding ts) ≡ true
apart_at_end ts i inv h = inv ∙ ap (λ xs. all_apart (sounding xs)) (drop_all i ts h)

-- a list without silent tags is its own sounding part
pub sounding_all : (ts : List Tag) → all sounds ts ≡ true → sounding ts ≡ ts
sounding_all [] h = refl
sounding_all (t ∷ ts) h =
    let p = and_parts (sounds t) (all sounds ts) h in
    ap (λ b. cond b (sounding ts) (t ∷ sounding ts)) (not-true (silent t.class) p.0) ∙ ap (λ xs. t ∷ xs) (sounding_all ts p.1)

sound_more : (b : Bool) (t : Tag) (ts : List Tag) → silent t.class ≡ b → all sounds ts ≡ true → all sounds (cond b ts (t ∷ ts)) ≡ true
sound_more true t ts e h = h
sound_more false t ts e h = and_from _ _ (ap not e) h

-- what is left when silent tags are left out sounds
pub all_sound : (ts : List Tag) → all sounds (sounding ts) ≡ true
all_sound [] = refl
all_sound (t ∷ ts) = sound_more (silent t.class) t (sounding ts) refl (all_sound ts)

pub sounding_again : (ts : List Tag) → sounding (sounding ts) ≡ sounding ts
sounding_again ts = sounding_all (sounding ts) (all_sound ts)

-- a lawful list, silent tags left out, is one that a label may have
pub sealable_sounding : (n : ℕ) (ts : List Tag) → length (sounding ts) ≤ 4 → lawful n ts ≡ true → sealable n (sounding ts) ≡ true
sealable_sounding n ts few h = and_from _ _ (and_from _ _ (le-leb _ _ few) (all_sound ts)) (ap (lawful_sounding n) (sounding_again ts) ∙ h)
