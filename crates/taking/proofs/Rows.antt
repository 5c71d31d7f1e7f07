-- Segments in a row.
use Rattle.std.proofs.Common.{◌≡◌, ℕ, zero, suc, ◌+◌, ◌-◌, ◌*◌, ◌<◌, ◌≤◌, Bool, true, false, cond, ◌||◌, List, [], ◌++◌, length, get_or, take, drop, Some, None, Option, sym, refl, ap, ◌∙◌, ⊎_elim, add-one, arith, is_some}
use Rattle.std.specs.List.{list_any}
use Rattle.std.specs.Option.{option_map}
use Rattle.std.proofs.Math.Bool.{or_comm}
use Rattle.std.proofs.Math.Nat.{mul-le-mul_left, mul-add}
use Rattle.std.proofs.lemmas.List.{append-nil, append_assoc, drop_more, drop_all}
use Rattle.std.proofs.lemmas.List.Folds.{list_any_more}
use Rattle.std.proofs.lemmas.Bool.{cases_lt}
use Rattle.taking.specs.Rows.{held_in}
use Rattle.taking.specs.Segments.{Segments, any_from, ends_at, ends_below, is_held, joined, read_from, read_one}

joined_joined : (xs ys : List ℕ) (r : Option (List ℕ)) → joined xs (joined ys r) ≡ joined (xs ++ ys) r
joined_joined xs ys None = refl
joined_joined xs ys (Some x) = ap Some (sym (append_assoc xs ys x))

is_held_map : {S D : Type 0} (meant : S → D) (o : Option S) → is_some o ≡ is_held (option_map meant o)
is_held_map meant None = refl
is_held_map meant (Some s) = refl

module _ {S D : Type 0} (g : Segments D) (meant : S → D) (rows : List (Option S)) where
  abbrev ends_here : Option S → Bool
  ends_here o = ends_at g (option_map meant o)

  -- an end among the first n
  pub ends_are : (n : ℕ) → n ≤ length rows → list_any (λ o. ends_at g (option_map meant o)) (take n rows) ≡ ends_below g (held_in meant rows) n
  ends_are zero c = refl
  ends_are (suc n) c =
      ap (λ k. list_any ends_here (take k rows)) (sym (add-one n)) ∙ list_any_more ends_here rows n None (omega arith)
      ∙ or_comm (list_any ends_here (take n rows)) (ends_here (get_or rows n None)) ∙ ap (λ b. ends_here (get_or rows n None) || b) (ends_are n (omega arith))

  -- a held one from i on
  pub held_from : (f i : ℕ) → i + f ≡ length rows → list_any is_some (drop i rows) ≡ any_from (held_in meant rows) f i
  held_from zero i c = ap (list_any is_some) (drop_all i rows (omega arith))
  held_from (suc f) i c =
      ap (list_any is_some) (drop_more rows i None (omega arith))
      ∙ ap (λ b. b || list_any is_some (drop (i + 1) rows)) (is_held_map meant (get_or rows i None))
      ∙ ap (λ k. is_held (held_in meant rows i) || list_any is_some (drop k rows)) (add-one i)
      ∙ ap (λ b. is_held (held_in meant rows i) || b) (held_from f (suc i) (omega arith))

  -- the text of n numbers, where xs is read and segment i comes
  module _ (n : ℕ) (xs : List ℕ) (i : ℕ) (s : S) where
    abbrev rest : ℕ → Option (List ℕ)
    rest k = read_from g (held_in meant rows) (n - k) k

    abbrev whole : Option (List ℕ)
    whole = read_from g (held_in meant rows) n 0

    module _ (p : whole ≡ joined xs (rest i)) (c : i < n) (e : get_or rows i None ≡ Some s) where
      rest_one : rest i ≡ read_one g (held_in meant rows i) (rest (i + 1))
      rest_one =
          let f : n - i ≡ suc (n - (i + 1)) = omega arith in
          ap (λ k. read_from g (held_in meant rows) k i) f ∙ ap (λ k. read_one g (held_in meant rows i) (read_from g (held_in meant rows) (n - (i + 1)) k)) (sym (add-one i))

      read_on : whole ≡ joined (xs ++ g.bytes (meant s)) (cond (g.ends (meant s)) (Some []) (rest (i + 1)))
      read_on =
          p ∙ ap (joined xs) (rest_one ∙ ap (λ o. read_one g (option_map meant o) (rest (i + 1))) e)
          ∙ joined_joined xs (g.bytes (meant s)) (cond (g.ends (meant s)) (Some []) (rest (i + 1)))

      pub read_more : g.ends (meant s) ≡ false → whole ≡ joined (xs ++ g.bytes (meant s)) (rest (i + 1))
      read_more h = read_on ∙ ap (λ b. joined (xs ++ g.bytes (meant s)) (cond b (Some []) (rest (i + 1)))) h

      pub read_ends : g.ends (meant s) ≡ true → whole ≡ Some (xs ++ g.bytes (meant s))
      read_ends h = read_on ∙ ap (λ b. joined (xs ++ g.bytes (meant s)) (cond b (Some []) (rest (i + 1)))) h ∙ ap Some (append-nil _)

-- parts of which n are at most 128 bytes long, fewer than n of them taken
pub room : (n taken part : ℕ) → 0 < n → n * taken + 128 ≤ n * 128 → n * part ≤ 128 → (taken + part) ≤ 128
room n taken part c h k =
    ⊎_elim (λ (z : 128 < taken + part). absurd (let d : n * 129 ≤ n * (taken + part) = mul-le-mul_left n (let e : 129 ≤ taken + part = omega arith in e) in let e = mul-add n taken part in omega arith)) (λ z. z) (cases_lt 128 (taken + part))

pub taken_more : (n i taken part : ℕ) → n * taken ≤ 128 * i → n * part ≤ 128 → n * (taken + part) ≤ 128 * (i + 1)
taken_more n i taken part h k = let e = mul-add n taken part in omega arith
