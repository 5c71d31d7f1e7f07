-- Entries that are added one by one, and the places that they take.
use Rattle.std.proofs.Common.{◌≡◌, ℕ, zero, suc, ◌+◌, ◌<◌, ◌≤◌, max, List, [], ◌∷◌, ◌++◌, reverse, length, get_or, take, drop, set, sym, refl, ap, ◌∙◌, ⊎_elim, arith}
use mathlib.Core.List.{reverse-cons}
use Rattle.std.proofs.lemmas.List.{append_assoc, append-nil, length-append, length-take, length-drop, length-reverse, length-set, take_more_set, take_all, take_at, take-take, drop_all, drop-drop, drop-set-lt, drop_more, reverse-append}
use Rattle.std.proofs.lemmas.Bool.{cases_lt}
use Rattle.past.specs.Entries.{Holding, newest_first, lies, latest, added}

-- what was cut off before makes no difference
latest_again : {X : Type 0} (n : ℕ) (x : X) (xs : List X) → latest n (x ∷ latest n xs) ≡ latest n (x ∷ xs)
latest_again zero x xs = refl
latest_again (suc n) x xs = ap (λ l. x ∷ l) (take-take n (suc n) xs (omega arith))

-- one more behind those that were added
pub one_more : {X : Type 0} (x : X) (xs : List X) (h : Holding X) → added (x ∷ []) (added xs h) ≡ added (xs ++ x ∷ []) h
one_more {X} x xs h =
    let e : latest h.capacity (x ∷ latest h.capacity (reverse xs ++ h.entries)) ≡ latest h.capacity (reverse (xs ++ x ∷ []) ++ h.entries)
    = latest_again h.capacity x (reverse xs ++ h.entries) ∙ ap (λ (l : List X). latest h.capacity (l ++ h.entries)) (sym (reverse-append xs (x ∷ []))) in
    let s : drop 1 (drop (length xs) h.spare) ≡ drop (length (xs ++ x ∷ [])) h.spare
    = drop-drop 1 (length xs) h.spare ∙ ap (λ n. drop n h.spare) (sym (length-append xs (x ∷ []))) in
    cc

-- with none from `next` on
all_newer : {X : Type 0} (q : List X) (k : ℕ) → length q ≤ k → newest_first q k ≡ reverse q
all_newer {X} q k h =
    ap (λ (l : List X). reverse l ++ reverse (drop k q)) (take_all k q h)
    ∙ ap (λ (l : List X). reverse q ++ reverse l) (drop_all k q h)
    ∙ append-nil (reverse q)

-- at the end it makes no difference to begin again at the first place
pub turned : {X : Type 0} (p : List X) (loan held k : ℕ) → length p ≤ k → lies p loan held 0 ≡ lies p loan held k
turned {X} p loan held k h =
    let e : newest_first (take held p) k ≡ reverse (take held p) = all_newer (take held p) k (simp length-take (omega arith)) in
    cc

-- the places as they lie once one more entry is placed
module _ {X : Type 0} (p : List X) (k : ℕ) (x : X) (h : k < length p) (loan : ℕ) where
  -- the first that was spare is taken until the list has gone round
  filling : lies (set p k x) loan (k + 1) (k + 1) ≡ added (x ∷ []) (lies p loan k k)
  filling =
      let q = take (k + 1) (set p k x) in
      let new : q ≡ take k p ++ (x ∷ []) = take_more_set p k x h in
      let n : length q ≡ k + 1 = simp (length-take, length-set) (omega arith) in
      let old : newest_first (take k p) k ≡ reverse (take k p) = all_newer (take k p) k (simp length-take (omega arith)) in
      let e : newest_first q (k + 1) ≡ latest (length p) (x ∷ newest_first (take k p) k)
      = all_newer q (k + 1) (omega arith)
      ∙ ap reverse new
      ∙ reverse-append (take k p) (x ∷ [])
      ∙ sym (take_all (length p) (x ∷ reverse (take k p)) (simp (length-reverse, length-take) (omega arith)))
      ∙ ap (λ (l : List X). latest (length p) (x ∷ l)) (sym old) in
      let s : drop (k + 1) (set p k x) ≡ drop 1 (drop k p) = drop-set-lt (k + 1) p k x (omega arith) ∙ sym (drop-drop 1 k p) in
      let l : length (set p k x) ≡ length p = length-set p k x in
      cc

  -- and then the place of the oldest
  round : lies (set p k x) loan (length p) (k + 1) ≡ added (x ∷ []) (lies p loan (length p) k)
  round =
      let older = reverse (drop (k + 1) p) in
      let since = reverse (take k p) in
      let y = get_or p k x in
      let l : length (set p k x) ≡ length p = length-set p k x in
      let all : take (length p) (set p k x) ≡ set p k x = take_all (length p) (set p k x) (omega arith) in
      let all_old : take (length p) p ≡ p = take_all (length p) p (omega arith) in
      let new : newest_first (set p k x) (k + 1) ≡ x ∷ (since ++ older) =
      rw (drop-set-lt (k + 1) p k x (omega arith), take_more_set p k x h)
      (ap (λ (l : List X). l ++ older) (reverse-append (take k p) (x ∷ [])))
      in
      let old : newest_first p k ≡ since ++ older ++ (y ∷ []) =
      ap (λ (l : List X). since ++ reverse l) (drop_more p k x h)
      ∙ ap (λ (l : List X). since ++ l) (reverse-cons y (drop (k + 1) p))
      ∙ sym (append_assoc since older (y ∷ []))
      in
      let e : newest_first (take (length p) (set p k x)) (k + 1) ≡ latest (length p) (x ∷ newest_first (take (length p) p) k)
      = ap (λ q. newest_first q (k + 1)) all
      ∙ new
      ∙ sym (take_at (x ∷ (since ++ older)) (y ∷ []) (length p) (simp (length-append, length-reverse, length-take, length-drop) (omega arith)))
      ∙ ap (λ (l : List X). latest (length p) (x ∷ l)) (sym old)
      ∙ ap (λ q. latest (length p) (x ∷ newest_first q k)) (sym all_old) in
      let s : drop (length p) (set p k x) ≡ drop 1 (drop (length p) p)
      = drop_all (length p) (set p k x) (omega arith) ∙ ap (drop 1) (sym (drop_all (length p) p (omega arith))) in
      cc

  pub placed : (held m : ℕ) → m ≡ max held (k + 1) → held ≤ length p → k ≤ held → (held < length p → k ≡ held)
      → lies (set p k x) loan m (k + 1) ≡ added (x ∷ []) (lies p loan held k)
  placed held m f room within filled =
      let at : (old new : ℕ) → held ≡ old → m ≡ new → lies (set p k x) loan new (k + 1) ≡ added (x ∷ []) (lies p loan old k)
      → lies (set p k x) loan m (k + 1) ≡ added (x ∷ []) (lies p loan held k)
      = λ old new d e step. ap (λ n. lies (set p k x) loan n (k + 1)) e ∙ step ∙ ap (λ n. added (x ∷ []) (lies p loan n k)) (sym d) in
      ⊎_elim
      (λ l. let j = filled l in at k (k + 1) (omega arith) (omega arith) filling)
      (λ g. at (length p) (length p) (omega arith) (omega arith) round)
      (cases_lt held (length p))
