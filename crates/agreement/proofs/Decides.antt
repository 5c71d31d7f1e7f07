-- The labels decide what a class holds.
use Rattle.std.proofs.Common.{◌≡◌, ℕ, ◌≤◌, Bool, true, false, ◌⊎◌, List, [], ◌∷◌, ◌++◌, length, drop, Some, None, Option, sym, refl, ap, ◌∙◌, subst, inl, inr, arith, length-append}
use Rattle.std.proofs.lemmas.List.{drop_at}
use Rattle.label.specs.Classes.{item_class}
use Rattle.label.specs.Label.{Label, marked, item_deletion}
use Rattle.label.specs.Tags.{deletion}
use Rattle.agreement.specs.Holds.{Unnamed, HoldsLast, RunningItem, NoItemDeletion, FromDeletion, HoldsOfItem, Decides}

-- the last label that names the class
record Last (c : ℕ) (ls : List Label) : Type 0 where
  front : List Label
  back : List Label
  label : Label
  p : List ℕ
  at : ls ≡ front ++ (label ∷ back)
  behind : Unnamed c back
  is : marked label c ≡ Some p

find_last : (c : ℕ) (ls : List Label) → Unnamed c ls ⊎ Last c ls
find_last c [] = inl tt
find_last c (l ∷ ls) = go (find_last c ls)
  where
    here : Unnamed c ls → (o : Option (List ℕ)) → marked l c ≡ o → Unnamed c (l ∷ ls) ⊎ Last c (l ∷ ls)
    here u None e = inl (e, u)
    here u (Some p) e = inr (record { front = []; back = ls; label = l; p = p; at = refl; behind = u; is = e })

    go : Unnamed c ls ⊎ Last c ls → Unnamed c (l ∷ ls) ⊎ Last c (l ∷ ls)
    go (inl u) = here u (marked l c) refl
    go (inr w) = inr (record { front = l ∷ w.front; back = w.back; label = w.label; p = w.p; at = ap (λ x. l ∷ x) w.at; behind = w.behind; is = w.is })

last_decides : (c : ℕ) (ls : List Label) (x y : List ℕ) → HoldsLast c ls x → HoldsLast c ls y → x ≡ y
last_decides c ls x y h g = go (find_last c ls)
  where
    named : (w : Last c ls) (b : Bool) → deletion w.p ≡ b → x ≡ y
    named w true d = h.deleted w.front w.back w.label w.p w.at w.behind w.is d ∙ sym (g.deleted w.front w.back w.label w.p w.at w.behind w.is d)
    named w false d = h.part w.front w.back w.label w.p w.at w.behind w.is d ∙ sym (g.part w.front w.back w.label w.p w.at w.behind w.is d)

    go : Unnamed c ls ⊎ Last c ls → x ≡ y
    go (inl u) = h.none u ∙ sym (g.none u)
    go (inr w) = named w (deletion w.p) refl

-- two ends of one list
ends : (a r b q : List Label) → a ++ r ≡ b ++ q → length r ≡ length q → r ≡ q
ends a r b q e n =
    let k : length a ≡ length b = omega (arith, ap length e, length-append a r, length-append b q) in
    sym (drop_at a r (length a) refl) ∙ ap (drop (length a)) e ∙ drop_at b q (length a) (sym k)

row_decides : (ls r q : List Label) → RunningItem ls r → RunningItem ls q → r ≡ q
row_decides ls r q h g =
    let x : length q ≤ length r = h.longest g.before q g.end g.one in
    let y : length r ≤ length q = g.longest h.before r h.end h.one in
    ends h.before r g.before q (sym h.end ∙ g.end) (omega arith)

-- two ends that count
no_both : {X : Type 0} (b : Bool) → b ≡ true → b ≡ false → X
no_both true e f = absurd (let z : ◌≡◌ {A = ℕ} 0 1 = cc in omega arith)
no_both false e f = absurd (let z : ◌≡◌ {A = ℕ} 0 1 = cc in omega arith)

no_front : {X : Type 0} (x : Label) (a : List Label) → x ∷ a ≡ [] → X
no_front x a e = absurd (omega (arith, ap length e))

free_at : (xs ys : List Label) (l : Label) → NoItemDeletion (xs ++ (l ∷ ys)) → item_deletion l ≡ false
free_at [] ys l h = h.0
free_at (x ∷ xs) ys l h = free_at xs ys l h.1

shorter : (x : Label) (a c : List Label) → FromDeletion (x ∷ a) c → FromDeletion a c
shorter x a [] h = no_front x a h
shorter x a (l ∷ ls) h = (go h.0, h.1)
  where
    go : (item_deletion l ≡ true) ⊎ (x ∷ a ≡ []) → (item_deletion l ≡ true) ⊎ (a ≡ [])
    go (inl t) = inl t
    go (inr n) = no_front x a n

all_counts : (y : Label) (b c d : List Label) → c ≡ y ∷ (b ++ d) → FromDeletion [] c → FromDeletion (y ∷ b) d → c ≡ d
all_counts y b c [] e h g = no_front y b g
all_counts y b c (z ∷ zs) e h g = go g.0
  where
    go : (item_deletion z ≡ true) ⊎ (y ∷ b ≡ []) → c ≡ z ∷ zs
    go (inl t) = no_both (item_deletion z) t (free_at b zs z (subst (FromDeletion []) e h).1)
    go (inr n) = no_front y b n

counted_decides : (a b c d : List Label) → a ++ c ≡ b ++ d → FromDeletion a c → FromDeletion b d → c ≡ d
counted_decides [] [] c d e h g = e
counted_decides [] (y ∷ b) c d e h g = all_counts y b c d e h g
counted_decides (x ∷ a) [] c d e h g = sym (all_counts x a d c (sym e) g h)
counted_decides (x ∷ a) (y ∷ b) c d e h g = counted_decides a b c d (cc) (shorter x a c h) (shorter y b d g)

item_decides : (c : ℕ) (ls : List Label) (x y : List ℕ) → HoldsOfItem c ls x → HoldsOfItem c ls y → x ≡ y
item_decides c ls x y h g =
    let r = row_decides ls h.row g.row h.running g.running in
    let k : h.counted ≡ g.counted = counted_decides h.counts.before g.counts.before h.counted g.counted (sym h.counts.end ∙ r ∙ g.counts.end) h.counts.since g.counts.since in
    last_decides c g.counted x y (subst (λ z. HoldsLast c z x) k h.last) g.last

pub decides : Decides
decides c ls x y h g = go (item_class c) refl
  where
    go : (b : Bool) → item_class c ≡ b → x ≡ y
    go true e = item_decides c ls x y (h.inside e) (g.inside e)
    go false e = last_decides c ls x y (h.outside e) (g.outside e)
