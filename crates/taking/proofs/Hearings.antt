-- The shared taking rules give the hearing laws, for any pieces and any label.
use Rattle.std.proofs.Common.{◌≡◌, ℕ, ◌<◌, Bool, true, false, cond, ◌⊎◌, List, [], ◌∷◌, ◌++◌, Some, None, Option, sym, refl, ap, ◌∙◌, subst, inl, inr, ⊎_elim}
use Rattle.std.proofs.lemmas.Bool.{eq-eqb, and_parts, and_from, or_left, or_right}
use Rattle.carrier.specs.Hearing.{AtMostOnce, IsLabel, Once}
use Rattle.carrier.specs.Meaning.{answered, next, refused}
use Rattle.carrier.specs.declared.answer.Answer.TheVariants.{Again, Complete, Dropped, Kept}
use Rattle.label.specs.Label.{Label}
use Rattle.label.specs.Tags.{has, has_all, same_tag, sounding}
use Rattle.label.specs.declared.refusal.Refusal.TheVariants.{TagsUnlawful, TagsUnlike}
use Rattle.label.specs.declared.tag.Tag.{Tag}
use Rattle.label.proofs.Sounding.{sounding_again}
use Rattle.taking.specs.Events.{Airs, AllWithin, Among, Event, HearsEvents, OnAir, Within, aside, completed_here, on_event, piece, run, run_completions, tags}
use Rattle.taking.specs.Pieces.{Pieces, PiecesOf}
use Rattle.taking.specs.Taking.{Tags, Taken, agrees, begun, by_look, forgotten, label_from, met, on_tags, on_text, settled, stands, tags_met, tags_told, waiting_for}
use Rattle.taking.specs.declared.look.Look.TheVariants.{Equal, Fresh}
use Rattle.taking.proofs.Cutting.{beq_same}

-- tags are like themselves, silent ones left out or not
tag_same : (t : Tag) → same_tag t t ≡ true
tag_same t = and_from _ _ (and_from _ _ (eq-eqb t.class t.class refl) (eq-eqb t.start t.start refl)) (eq-eqb t.extent t.extent refl)

has_all_more : (u : Tag) (ts us : List Tag) → has_all ts us ≡ true → has_all ts (u ∷ us) ≡ true
has_all_more u [] us e = refl
has_all_more u (t ∷ ts) us e = let h = and_parts (has t us) (has_all ts us) e in and_from _ _ (or_right (same_tag t u) (has t us) h.0) (has_all_more u ts us h.1)

has_all_same : (ts : List Tag) → has_all ts ts ≡ true
has_all_same [] = refl
has_all_same (t ∷ ts) = and_from _ _ (or_left (same_tag t t) (has t ts) (tag_same t)) (has_all_more t ts ts (has_all_same ts))

agrees_same : (x : List ℕ) (w : Tags) → agrees (label_from x w) w ≡ true
agrees_same x w =
    let e = sounding_again w.tags in
    let h = has_all_same (sounding w.tags) in
    and_from _ _ (and_from _ _ (ap (λ us. has_all us (sounding w.tags)) e ∙ h) (ap (has_all (sounding w.tags)) e ∙ h)) (and_from _ _ (beq_same w.item.toggle) (beq_same w.item.running))

-- the three kinds of state in which a hearing of the label can be
abbrev bare : {P : Type 0} → Bool → P → Taken P
bare t p = record { standing = Some t; held = p; waiting = None; told = None }

abbrev tagged : {P : Type 0} → Bool → Tags → P → Taken P
tagged t w p = record { standing = Some t; held = p; waiting = Some w; told = None }

abbrev whole : {P : Type 0} → Bool → Tags → List ℕ → P → Taken P
whole t w x p = record { standing = Some t; held = p; waiting = None; told = Some (label_from x w) }

-- one step, in each of them
module _ {P K : Type 0} (q : Pieces P K) (t : Bool) where
  pub on_standing : (s : Taken P) (k : K) → s.standing ≡ Some t → on_text q s t k ≡ by_look q s t k (q.look s.held k)
  unfolding on_text
  on_standing s k e = ap (λ b. cond b (by_look q s t k (q.look s.held k)) (answered Kept (begun q t k))) (ap (λ o. stands o t) e ∙ beq_same t)

  pub on_other : (s : Taken P) (k : K) → stands s.standing t ≡ false → on_text q s t k ≡ answered Kept (begun q t k)
  unfolding on_text
  on_other s k e = ap (λ b. cond b (by_look q s t k (q.look s.held k)) (answered Kept (begun q t k))) e

  settled_bare : (s : Taken P) (o : Option (List ℕ)) → settled s o None ≡ answered Kept s
  settled_bare s None = refl
  settled_bare s (Some x) = refl

  met_standing : (s : Taken P) (mt : Option Bool) → (mt ≡ None) ⊎ (mt ≡ Some t) → s.standing ≡ Some t → met q s mt ≡ s
  met_standing s mt (inl e) h = ap (met q s) e
  met_standing s mt (inr e) h = ap (met q s) e ∙ ap (λ b. cond b s (forgotten q t)) (ap (λ o. stands o t) h ∙ beq_same t)

  on_met : (s : Taken P) (mt : Option Bool) (w : Tags) (o : Option (List ℕ)) → (mt ≡ None) ⊎ (mt ≡ Some t) → s.standing ≡ Some t → q.text s.held ≡ o → on_tags q s mt w ≡ tags_met s s w o
  unfolding on_tags
  on_met s mt w o c h e = ap (λ u. tags_met s u w (q.text u.held)) (met_standing s mt c h) ∙ ap (tags_met s s w) e

-- the label's text is x, its tags arrive as w, and it is heard as a
module _ {P K : Type 0} (q : Pieces P K) (l : Label) (a : OnAir K) (Part : P → Type 0) (Has : P → ℕ → Type 0) (po : PiecesOf q l.text a.count a.pieces Part Has) (air : Airs l a) where
  -- a piece of the label, in each kind of state
  bare_equal : (p : P) (i : ℕ) → q.look p (a.pieces i) ≡ Equal → on_event q a (bare a.toggle p) (piece i) ≡ answered Kept (bare a.toggle p)
  bare_equal p i e = on_standing q a.toggle _ (a.pieces i) refl ∙ ap (by_look q (bare a.toggle p) a.toggle (a.pieces i)) e

  bare_fresh : (p : P) (i : ℕ) → q.look p (a.pieces i) ≡ Fresh → on_event q a (bare a.toggle p) (piece i) ≡ answered Kept (bare a.toggle (q.put p (a.pieces i)))
  bare_fresh p i e =
      on_standing q a.toggle _ (a.pieces i) refl
      ∙ ap (by_look q (bare a.toggle p) a.toggle (a.pieces i)) e
      ∙ settled_bare q a.toggle (bare a.toggle (q.put p (a.pieces i))) (q.text (q.put p (a.pieces i)))

  tagged_equal : (p : P) (i : ℕ) → q.look p (a.pieces i) ≡ Equal → on_event q a (tagged a.toggle a.tags p) (piece i) ≡ answered Kept (tagged a.toggle a.tags p)
  tagged_equal p i e = on_standing q a.toggle _ (a.pieces i) refl ∙ ap (by_look q (tagged a.toggle a.tags p) a.toggle (a.pieces i)) e

  tagged_fresh : (p : P) (i : ℕ) (o : Option (List ℕ)) → q.look p (a.pieces i) ≡ Fresh → q.text (q.put p (a.pieces i)) ≡ o
      → on_event q a (tagged a.toggle a.tags p) (piece i) ≡ settled (tagged a.toggle a.tags (q.put p (a.pieces i))) o (Some a.tags)
  tagged_fresh p i o e h =
      on_standing q a.toggle _ (a.pieces i) refl
      ∙ ap (by_look q (tagged a.toggle a.tags p) a.toggle (a.pieces i)) e
      ∙ ap (λ x. settled (tagged a.toggle a.tags (q.put p (a.pieces i))) x (Some a.tags)) h

  tagged_last : (p : P) (i : ℕ) → q.look p (a.pieces i) ≡ Fresh → q.text (q.put p (a.pieces i)) ≡ Some l.text
      → on_event q a (tagged a.toggle a.tags p) (piece i) ≡ answered Complete (whole a.toggle a.tags l.text (q.put p (a.pieces i)))
  tagged_last p i e h = tagged_fresh p i (Some l.text) e h ∙ ap (λ b. cond b (answered Complete (whole a.toggle a.tags l.text (q.put p (a.pieces i)))) (answered Dropped (bare a.toggle (q.put p (a.pieces i))))) air.lawful

  whole_look : (p : P) (i : ℕ) → ((q.look p (a.pieces i) ≡ Equal) × Has p i) ⊎ (q.look p (a.pieces i) ≡ Fresh) → on_event q a (whole a.toggle a.tags l.text p) (piece i) ≡ answered Again (whole a.toggle a.tags l.text p)
  whole_look p i (inl e) = on_standing q a.toggle _ (a.pieces i) refl ∙ ap (by_look q (whole a.toggle a.tags l.text p) a.toggle (a.pieces i)) e.0
  whole_look p i (inr e) = on_standing q a.toggle _ (a.pieces i) refl ∙ ap (by_look q (whole a.toggle a.tags l.text p) a.toggle (a.pieces i)) e

  -- its tags, in each kind of state
  tags_wait : (s : Taken P) → s.standing ≡ Some a.toggle → q.text s.held ≡ None → on_event q a s tags ≡ answered Kept (waiting_for s a.tags)
  tags_wait s h e = on_met q a.toggle s a.tags_toggle a.tags None air.own h e

  bare_tags : (p : P) → q.text p ≡ Some l.text → on_event q a (bare a.toggle p) tags ≡ answered Complete (whole a.toggle a.tags l.text p)
  bare_tags p e =
      on_met q a.toggle (bare a.toggle p) a.tags_toggle a.tags (Some l.text) air.own refl e
      ∙ ap (λ b. cond b (answered Complete (whole a.toggle a.tags l.text p)) (refused TagsUnlawful)) air.lawful

  whole_tags : (p : P) → q.text p ≡ Some l.text → on_event q a (whole a.toggle a.tags l.text p) tags ≡ answered Again (whole a.toggle a.tags l.text p)
  whole_tags p e =
      let s = whole a.toggle a.tags l.text p in
      on_met q a.toggle s a.tags_toggle a.tags (Some l.text) air.own refl e
      ∙ ap (λ b. cond b (tags_told s s l.text a.tags s.told) (refused TagsUnlawful)) air.lawful
      ∙ ap (λ b. cond b (answered Again s) (refused TagsUnlike)) (agrees_same l.text a.tags)

  -- runs: the label is told
  whole_still : (p : P) → Part p → q.text p ≡ Some l.text → (e : Event) → Within a.count e
      → (next (whole a.toggle a.tags l.text p) (on_event q a (whole a.toggle a.tags l.text p) e) ≡ whole a.toggle a.tags l.text p)
      × (completed_here (on_event q a (whole a.toggle a.tags l.text p) e) ≡ [])
  whole_still p pp h (piece i) c = let e = whole_look p i (po.looks p i pp c) in (ap (next (whole a.toggle a.tags l.text p)) e, ap completed_here e)
  whole_still p pp h tags c = let e = whole_tags p h in (ap (next (whole a.toggle a.tags l.text p)) e, ap completed_here e)
  whole_still p pp h aside c = (refl, refl)

  from_whole : (p : P) → Part p → q.text p ≡ Some l.text → (es : List Event) → AllWithin a.count es
      → (run q a (whole a.toggle a.tags l.text p) es ≡ whole a.toggle a.tags l.text p)
      × (run_completions q a (whole a.toggle a.tags l.text p) es ≡ [])
  from_whole p pp h [] c = (refl, refl)
  from_whole p pp h (e ∷ es) c =
      let s = whole a.toggle a.tags l.text p in
      let still = whole_still p pp h e c.0 in
      let rest = from_whole p pp h es c.1 in (
        ap (λ u. run q a u es) still.0 ∙ rest.0,
        ap (λ xs. xs ++ run_completions q a (next s (on_event q a s e)) es) still.1 ∙ ap (λ u. run_completions q a u es) still.0 ∙ rest.1,
      )

  -- how a run from s ends, and what it surely does given Sure
  record Ends (s : Taken P) (es : List Event) (Sure : Type 0) : Type 0 where
    stands : (run q a s es).standing ≡ Some a.toggle
    once : AtMostOnce l (run_completions q a s es)
    full : Sure → Once l (run_completions q a s es) × IsLabel l (run q a s es).told

  ends_kept : (s u : Taken P) (e : Event) (es : List Event) {Sure Sure' : Type 0} → on_event q a s e ≡ answered Kept u → (Sure → Sure') → Ends u es Sure' → Ends s (e ∷ es) Sure
  ends_kept s u e es x g h =
      let n : next s (on_event q a s e) ≡ u = ap (next s) x in
      let c : run_completions q a s (e ∷ es) ≡ run_completions q a u es =
      ap (λ xs. xs ++ run_completions q a (next s (on_event q a s e)) es) (ap completed_here x) ∙ ap (λ y. run_completions q a y es) n in
      record {
        stands = ap (λ y. (run q a y es).standing) n ∙ h.stands;
        once = subst (AtMostOnce l) (sym c) h.once;
        full = λ y. let f = h.full (g y) in (subst (Once l) (sym c) f.0, subst (IsLabel l) (sym (ap (λ y. (run q a y es).told) n)) f.1);
      }

  ends_told : (s : Taken P) (p : P) (e : Event) (es : List Event) {Sure : Type 0} → on_event q a s e ≡ answered Complete (whole a.toggle a.tags l.text p)
      → Part p → q.text p ≡ Some l.text → AllWithin a.count es → Ends s (e ∷ es) Sure
  ends_told s p e es x pp h c =
      let u = whole a.toggle a.tags l.text p in
      let rest = from_whole p pp h es c in
      let n : next s (on_event q a s e) ≡ u = ap (next s) x in
      let r : run q a s (e ∷ es) ≡ u = ap (λ y. run q a y es) n ∙ rest.0 in
      let c : run_completions q a s (e ∷ es) ≡ Some (label_from l.text a.tags) ∷ [] =
      ap (λ xs. xs ++ run_completions q a (next s (on_event q a s e)) es) (ap completed_here x)
      ∙ ap (λ xs. Some (label_from l.text a.tags) ∷ xs) (ap (λ y. run_completions q a y es) n ∙ rest.1) in
      record {
        stands = ap (λ y. y.standing) r;
        once = subst (AtMostOnce l) (sym c) (air.same, refl);
        full = λ _. (subst (Once l) (sym c) (air.same, refl), subst (IsLabel l) (sym (ap (λ y. y.told) r)) air.same);
      }

  -- each piece is held already or still comes
  abbrev Comes : P → List Event → Type 0
  Comes p es = (i : ℕ) → i < a.count → Has p i ⊎ Among (piece i) es

  comes_next : (p r : P) (e : Event) (es : List Event) → ((j : ℕ) → Has p j → Has r j) → ((j : ℕ) → e ≡ piece j → Has r j) → Comes p (e ∷ es) → Comes r es
  comes_next p r e es old new g i h = ⊎_elim (λ x. inl (old i x)) (λ y. ⊎_elim (λ x. inl (new i x)) inr y) (g i h)

  no_piece : {X : Type 0} (j : ℕ) → tags ≡ piece j → X
  no_piece j e = absurd (cc)

  no_aside : {X : Type 0} (j : ℕ) → aside ≡ piece j → X
  no_aside j e = absurd (cc)

  tags_later : (e : Event) (es : List Event) → (e ≡ tags → ⊥) → Among tags (e ∷ es) → Among tags es
  tags_later e es n (inl x) = absurd (n x)
  tags_later e es n (inr x) = x

  piece_has : (r : P) (i j : ℕ) → Has r i → piece i ≡ piece j → Has r j
  piece_has r i j h e = let x : i ≡ j = cc in subst (Has r) x h

  -- runs: the tags wait, and the text is not complete
  still_open : (p : P) → Part p → q.text p ≡ None → Comes p [] → ⊥
  still_open p pp h g =
      let e = po.whole p pp (λ i c. ⊎_elim (λ x. x) (λ y. absurd y) (g i c)) in cc

  tagged_piece : (i : ℕ) (es : List Event) (p : P) → Part p → q.text p ≡ None → i < a.count → AllWithin a.count es
      → ((r : P) → Part r → q.text r ≡ None → Ends (tagged a.toggle a.tags r) es (Comes r es))
      → ((q.look p (a.pieces i) ≡ Equal) × Has p i) ⊎ (q.look p (a.pieces i) ≡ Fresh)
      → (q.text (q.put p (a.pieces i)) ≡ None) ⊎ (q.text (q.put p (a.pieces i)) ≡ Some l.text)
      → Ends (tagged a.toggle a.tags p) (piece i ∷ es) (Comes p (piece i ∷ es))
  tagged_piece i es p pp h b c rest (inl e) y =
      ends_kept _ (tagged a.toggle a.tags p) (piece i) es (tagged_equal p i e.0) (comes_next p p (piece i) es (λ j x. x) (λ j x. piece_has p i j e.1 x)) (rest p pp h)
  tagged_piece i es p pp h b c rest (inr e) (inl n) =
      ends_kept _ (tagged a.toggle a.tags (q.put p (a.pieces i))) (piece i) es (tagged_fresh p i None e n)
      (comes_next p (q.put p (a.pieces i)) (piece i) es (λ j x. po.has_still p i j pp b x) (λ j x. piece_has _ i j (po.has_new p i pp b) x))
      (rest _ (po.grows p i pp b) n)
  tagged_piece i es p pp h b c rest (inr e) (inr x) = ends_told _ (q.put p (a.pieces i)) (piece i) es (tagged_last p i e x) (po.grows p i pp b) x c

  from_tagged : (es : List Event) (p : P) → Part p → q.text p ≡ None → AllWithin a.count es → Ends (tagged a.toggle a.tags p) es (Comes p es)
  from_tagged [] p pp h c = record { stands = refl; once = tt; full = λ g. absurd (still_open p pp h g) }
  from_tagged (piece i ∷ es) p pp h c =
      tagged_piece i es p pp h c.0 c.1 (λ r pr n. from_tagged es r pr n c.1) (po.looks p i pp c.0) (po.texts _ (po.grows p i pp c.0))
  from_tagged (tags ∷ es) p pp h c =
      ends_kept _ (tagged a.toggle a.tags p) tags es (tags_wait (tagged a.toggle a.tags p) refl h)
      (comes_next p p tags es (λ j x. x) (λ j e. no_piece j e)) (from_tagged es p pp h c.1)
  from_tagged (aside ∷ es) p pp h c =
      ends_kept _ (tagged a.toggle a.tags p) aside es refl (comes_next p p aside es (λ j x. x) (λ j e. no_aside j e)) (from_tagged es p pp h c.1)

  -- runs: no tags yet
  abbrev Coming : P → List Event → Type 0
  Coming p es = Comes p es × Among tags es

  bare_piece : (i : ℕ) (es : List Event) (p : P) → Part p → i < a.count
      → ((r : P) → Part r → Ends (bare a.toggle r) es (Coming r es))
      → ((q.look p (a.pieces i) ≡ Equal) × Has p i) ⊎ (q.look p (a.pieces i) ≡ Fresh)
      → Ends (bare a.toggle p) (piece i ∷ es) (Coming p (piece i ∷ es))
  bare_piece i es p pp b rest (inl e) =
      ends_kept _ (bare a.toggle p) (piece i) es (bare_equal p i e.0)
      (λ g. (comes_next p p (piece i) es (λ j x. x) (λ j x. piece_has p i j e.1 x) g.0, tags_later (piece i) es (λ x. no_piece i (sym x)) g.1))
      (rest p pp)
  bare_piece i es p pp b rest (inr e) =
      ends_kept _ (bare a.toggle (q.put p (a.pieces i))) (piece i) es (bare_fresh p i e)
      (λ g. (comes_next p (q.put p (a.pieces i)) (piece i) es (λ j x. po.has_still p i j pp b x) (λ j x. piece_has _ i j (po.has_new p i pp b) x) g.0, tags_later (piece i) es (λ x. no_piece i (sym x)) g.1))
      (rest _ (po.grows p i pp b))

  bare_tagged : (es : List Event) (p : P) → Part p → AllWithin a.count es → (q.text p ≡ None) ⊎ (q.text p ≡ Some l.text) → Ends (bare a.toggle p) (tags ∷ es) (Coming p (tags ∷ es))
  bare_tagged es p pp c (inl n) =
      ends_kept _ (tagged a.toggle a.tags p) tags es (tags_wait (bare a.toggle p) refl n)
      (λ g. comes_next p p tags es (λ j x. x) (λ j e. no_piece j e) g.0) (from_tagged es p pp n c)
  bare_tagged es p pp c (inr x) = ends_told _ p tags es (bare_tags p x) pp x c

  from_bare : (es : List Event) (p : P) → Part p → AllWithin a.count es → Ends (bare a.toggle p) es (Coming p es)
  from_bare [] p pp c = record { stands = refl; once = tt; full = λ g. absurd g.1 }
  from_bare (piece i ∷ es) p pp c = bare_piece i es p pp c.0 (λ r pr. from_bare es r pr c.1) (po.looks p i pp c.0)
  from_bare (tags ∷ es) p pp c = bare_tagged es p pp c.1 (po.texts p pp)
  from_bare (aside ∷ es) p pp c =
      ends_kept _ (bare a.toggle p) aside es refl
      (λ g. (comes_next p p aside es (λ j x. x) (λ j e. no_aside j e) g.0, tags_later aside es (λ e. cc) g.1))
      (from_bare es p pp c.1)

  -- the hearing: it begins with piece 0, where the label's toggle does not stand
  pub hears_events : (s : Taken P) (es : List Event) → stands s.standing a.toggle ≡ false → AllWithin a.count es → HearsEvents q l a s (piece 0 ∷ es)
  hears_events s es h c =
      let r : P = q.put q.none (a.pieces 0) in
      let begin : Ends s (piece 0 ∷ es) (((i : ℕ) → i < a.count → Among (piece i) (piece 0 ∷ es)) × Among tags (piece 0 ∷ es)) =
      ends_kept s (bare a.toggle r) (piece 0) es (on_other q a.toggle s (a.pieces 0) h)
      (λ g. (λ i b. ⊎_elim (λ e. inl (piece_has r 0 i po.first_has e)) inr (g.0 i b), tags_later (piece 0) es (λ x. no_piece 0 (sym x)) g.1))
      (from_bare es r po.first c) in
      record { stands = begin.stands; once = begin.once; full = λ x y. begin.full (x, y) }
