-- The segments of a text are pieces of it.
use Rattle.std.proofs.Common.{◌≡◌, ℕ, zero, suc, ◌+◌, ◌-◌, ◌<◌, true, false, cond, ◌&&◌, eqb, ◌⊎◌, List, [], ◌++◌, Some, None, Option, sym, refl, ap, ◌∙◌, subst, inl, inr, ⊎_elim, arith}
use Rattle.std.proofs.lemmas.Bool.{eq-eqb, eqb-true, or_from, and_left, and_right, cases_Bool, cases_lt, cond-true, cond-false}
use Rattle.taking.specs.Pieces.{PiecesOf}
use Rattle.taking.specs.Segments.{Held, Numbered, Segments, SegmentsOf, all_bytes, any_from, ends_at, ends_below, in_segments, is_held, joined, look_at, look_segment, numbered, put_segment, read_from, read_one}
use Rattle.taking.specs.declared.look.Look.TheVariants.{Equal, Fresh, Unlike}

put_cases : {D : Type 0} (h : Held D) (k : Numbered D) (j : ℕ) → ((j ≡ k.number) × (put_segment h k j ≡ Some k.segment)) ⊎ (put_segment h k j ≡ h j)
put_cases h k j =
    ⊎_elim (λ e. inl (eqb-true j k.number e, cond-true (eqb j k.number) _ _ e)) (λ e. inr (cond-false (eqb j k.number) _ _ e)) (cases_Bool (eqb j k.number))

module _ {D : Type 0} (g : Segments D) (x : List ℕ) (m : ℕ) (d : ℕ → D) (so : SegmentsOf g x m d) where
  abbrev pub Part : Held D → Type 0
  Part h = (j : ℕ) → (h j ≡ None) ⊎ ((j < suc m) × (h j ≡ Some (d j)))

  abbrev pub Has : Held D → ℕ → Type 0
  Has h j = h j ≡ Some (d j)

  grows : (h : Held D) (i : ℕ) → Part h → i < suc m → Part (put_segment h (numbered d i))
  grows h i p c j =
      ⊎_elim (λ e. inr (omega (arith, e.0), e.1 ∙ ap (λ n. Some (d n)) (sym e.0))) (λ e. ⊎_elim (λ y. inl (e ∙ y)) (λ y. inr (y.0, e ∙ y.1)) (p j)) (put_cases h (numbered d i) j)

  has_new : (h : Held D) (i : ℕ) → Has (put_segment h (numbered d i)) i
  has_new h i = cond-true (eqb i i) (Some (d i)) (h i) (eq-eqb i i refl)

  has_still : (h : Held D) (i j : ℕ) → Has h j → Has (put_segment h (numbered d i)) j
  has_still h i j y = ⊎_elim (λ e. e.1 ∙ ap (λ n. Some (d n)) (sym e.0)) (λ e. e ∙ y) (put_cases h (numbered d i) j)

  -- none of the label's segments is past the end, or shuts one out
  below_open : (h : Held D) (i : ℕ) → Part h → i < suc m → ends_below g h i ≡ false
  below_open h zero p c = refl
  below_open h (suc i) p c =
      or_from (ends_at g (h i)) (ends_below g h i)
      (⊎_elim (λ e. ap (ends_at g) e) (λ e. ap (ends_at g) e.1 ∙ so.goes_on i (omega arith)) (p i))
      (below_open h i p (omega arith))

  none_from : (h : Held D) (f i : ℕ) → Part h → m < i → any_from h f i ≡ false
  none_from h zero i p c = refl
  none_from h (suc f) i p c =
      or_from (is_held (h i)) (any_from h f (suc i)) (⊎_elim (λ e. ap is_held e) (λ e. absurd (omega (arith, e.0))) (p i)) (none_from h f (suc i) p (omega arith))

  end_last : (i : ℕ) → i < suc m → g.ends (d i) ≡ true → m < suc i
  end_last i c e = ⊎_elim (λ y. absurd (let z = so.goes_on i y in cc)) (λ y. omega arith) (cases_lt i m)

  not_shut : (h : Held D) (i : ℕ) → Part h → i < suc m → (g.shuts && g.ends (d i) && any_from h (g.count - suc i) (suc i)) ≡ false
  not_shut h i p c =
      ⊎_elim (λ e. and_right (g.shuts && g.ends (d i)) _ (none_from h (g.count - suc i) (suc i) p (end_last i c e)))
      (λ e. and_left (g.shuts && g.ends (d i)) _ (and_right g.shuts (g.ends (d i)) e)) (cases_Bool (g.ends (d i)))

  looks_at : (h : Held D) (i : ℕ) → Part h → i < suc m → look_segment g h (numbered d i) ≡ look_at g (h i) (d i)
  looks_at h i p c = cond-false (ends_below g h i) _ _ (below_open h i p c) ∙ cond-false _ Unlike (look_at g (h i) (d i)) (not_shut h i p c)

  looks : (h : Held D) (i : ℕ) → Part h → i < suc m → ((look_segment g h (numbered d i) ≡ Equal) × Has h i) ⊎ (look_segment g h (numbered d i) ≡ Fresh)
  looks h i p c =
      ⊎_elim (λ e. inr (looks_at h i p c ∙ ap (λ o. look_at g o (d i)) e))
      (λ e. inl (looks_at h i p c ∙ ap (λ o. look_at g o (d i)) e.1 ∙ cond-true (g.same (d i) (d i)) Equal Unlike (so.same i), e.1)) (p i)

  -- the text is whole, or a segment is missing
  abbrev Read : Held D → Option (List ℕ) → List ℕ → Type 0
  Read h r y = (r ≡ Some y) ⊎ ((r ≡ None) × ((j : ℕ) × (j < suc m) × (h j ≡ None)))

  read_step : (h : Held D) (i : ℕ) (rest : Option (List ℕ)) (y : List ℕ) → i < suc m → (h i ≡ None) ⊎ ((i < suc m) × (h i ≡ Some (d i)))
      → Read h (cond (g.ends (d i)) (Some []) rest) y → Read h (read_one g (h i) rest) (g.bytes (d i) ++ y)
  read_step h i rest y c (inl e) r = inr (ap (λ o. read_one g o rest) e, (i, c, e))
  read_step h i rest y c (inr e) (inl r) = inl (ap (λ o. read_one g o rest) e.1 ∙ ap (joined (g.bytes (d i))) r)
  read_step h i rest y c (inr e) (inr r) = inr (ap (λ o. read_one g o rest) e.1 ∙ ap (joined (g.bytes (d i))) r.0, r.1)

  read_last : (h : Held D) (f : ℕ) → m + suc f ≡ g.count → Read h (cond (g.ends (d m)) (Some []) (read_from g h f (suc m))) []
  read_last h f e =
      inl (⊎_elim (λ y. cond-true (g.ends (d m)) (Some []) _ y)
      (λ y. let z : f ≡ 0 = omega (arith, y.0) in cond-false (g.ends (d m)) (Some []) _ y.1 ∙ ap (λ n. read_from g h n (suc m)) z ∙ y.2) so.shut)

  read_end : (h : Held D) (f i : ℕ) → i ≡ m → i + suc f ≡ g.count → Read h (cond (g.ends (d i)) (Some []) (read_from g h f (suc i))) []
  read_end h f i z e = subst (λ n. Read h (cond (g.ends (d n)) (Some []) (read_from g h f (suc n))) []) (sym z) (read_last h f (omega arith))

  reads : (h : Held D) → Part h → (k f i : ℕ) → i + k ≡ m → i + f ≡ g.count → Read h (read_from g h f i) (all_bytes g d (suc k) i)
  reads h p k zero i e c = absurd (omega (arith, so.few))
  reads h p zero (suc f) i e c = read_step h i (read_from g h f (suc i)) [] (omega arith) (p i) (read_end h f i (omega arith) c)
  reads h p (suc k) (suc f) i e c =
      read_step h i (read_from g h f (suc i)) (all_bytes g d (suc k) (suc i)) (omega arith) (p i)
      (subst (λ b. Read h (cond b (Some []) (read_from g h f (suc i))) (all_bytes g d (suc k) (suc i))) (sym (so.goes_on i (omega arith))) (reads h p k f (suc i) (omega arith) (omega arith)))

  read_all : (h : Held D) → Part h → Read h (read_from g h g.count 0) x
  read_all h p = subst (Read h (read_from g h g.count 0)) so.joins (reads h p m g.count 0 (omega arith) (omega arith))

  not_missing : (h : Held D) → ((i : ℕ) → i < suc m → Has h i) → (j : ℕ) → j < suc m → h j ≡ None → ⊥
  not_missing h a j c e = let y = a j c in cc

  pub segment_pieces : PiecesOf (in_segments g) x (suc m) (numbered d) Part Has
  segment_pieces = record {
    first = grows (λ j. None) 0 (λ j. inl refl) (omega arith);
    first_has = has_new (λ j. None) 0;
    looks = looks;
    grows = grows;
    has_new = λ h i _ _. has_new h i;
    has_still = λ h i j _ _ y. has_still h i j y;
    texts = λ h p. ⊎_elim (λ e. inr e) (λ e. inl e.0) (read_all h p);
    whole = λ h p a. ⊎_elim (λ e. e) (λ e. absurd (not_missing h a e.1.0 e.1.1 e.1.2)) (read_all h p);
  }
