-- A carrier whose frames come down to the shared rules hears labels as every carrier shall.
use Rattle.std.proofs.Common.{◌≡◌, ℕ, suc, ◌+◌, ◌-◌, ◌<◌, ◌≤◌, Bool, true, false, not, ◌⊎◌, List, [], ◌∷◌, ◌++◌, sym, refl, ap, ◌∙◌, subst, inl, inr, ⊎_elim, arith}
use mathlib.Core.Bool.{beq}
use Rattle.std.proofs.lemmas.Bool.{cases_eq}
use Rattle.carrier.specs.Hearing.{AtMostOnce, Begins, Hears, InOrder, IsLabel, Numbers, Once, after, completions, frames_of, heard}
use Rattle.carrier.specs.Meaning.{Meaning, next}
use Rattle.label.specs.Label.{Label}
use Rattle.taking.specs.Events.{Airs, AllWithin, Among, Carries, Event, HearsEvents, OnAir, completed_here, events, on_event, piece, run, run_completions, tags}
use Rattle.taking.specs.Pieces.{Pieces, PiecesOf}
use Rattle.taking.specs.Taking.{Taken, stands}
use Rattle.taking.proofs.Hearings.{hears_events}

beq_not : (t : Bool) → beq (not t) t ≡ false
beq_not true = refl
beq_not false = refl

abbrev Occurs : ℕ → List ℕ → Type 0
Occurs i [] = ⊥
Occurs i (x ∷ xs) = (x ≡ i) ⊎ Occurs i xs

-- each number of a full hearing occurs
occurs : (xs : List ℕ) (n k i : ℕ) → InOrder n k xs → n ≤ i → i < n + k → Occurs i xs
occurs [] n k i o b c = absurd (omega arith)
occurs (x ∷ xs) n k i (inl o) b c =
    ⊎_elim (λ e. inl (o.1 ∙ e)) (λ e. inr (occurs xs (suc n) (k - 1) i o.2 (omega arith) (omega (arith, o.0)))) (cases_eq n i)
occurs (x ∷ xs) n k i (inr o) b c = inr (occurs xs n k i o b c)

module _ {S P K : Type 0} (m : Meaning S) (q : Pieces P K) (core : S → Taken P) (l : Label) (v : ℕ) (a : OnAir K) (event : S → ℕ → Event) where
  abbrev step_to : S → ℕ → S
  step_to s n = next s (m.step s (m.writing.frame l a.toggle v n))

  abbrev evs : S → List ℕ → List Event
  evs s ns = events m l a.toggle v event s ns

  -- the tags come in a full hearing: frame e is the tags, if the carrier is ready
  module _ (Ready : S → Type 0) (e : ℕ) (stays : (s : S) (n : ℕ) → n < frames_of m l → Ready s → Ready (step_to s n)) (ready : (s : S) → Ready s → event s e ≡ tags) where
    pub tags_ready : (ns : List ℕ) (s : S) (n k : ℕ) → Numbers (frames_of m l) ns → Ready s → InOrder n k ns → n ≤ e → e < n + k → Among tags (evs s ns)
    tags_ready [] s n k u r o b c = absurd (omega arith)
    tags_ready (x ∷ xs) s n k u r (inl o) b c =
        ⊎_elim (λ y. inl (ap (event s) (o.1 ∙ y) ∙ ready s r))
        (λ y. inr (tags_ready xs (step_to s x) (suc n) (k - 1) u.1 (stays s x u.0 r) o.2 (omega arith) (omega (arith, o.0)))) (cases_eq n e)
    tags_ready (x ∷ xs) s n k u r (inr o) b c = inr (tags_ready xs (step_to s x) n k u.1 (stays s x u.0 r) o b c)

    -- frame d makes it ready
    module _ (d : ℕ) (before : d < e) (makes : (s : S) → Ready (step_to s d)) where
      pub tags_after : (ns : List ℕ) (s : S) (n k : ℕ) → Numbers (frames_of m l) ns → InOrder n k ns → n ≤ d → e < n + k → Among tags (evs s ns)
      tags_after [] s n k u o b c = absurd (omega arith)
      tags_after (x ∷ xs) s n k u (inl o) b c =
          ⊎_elim (λ y. inr (tags_ready xs (step_to s x) (suc n) (k - 1) u.1 (subst (λ z. Ready (step_to s z)) (sym (o.1 ∙ y)) (makes s)) o.2 (omega arith) (omega (arith, o.0))))
          (λ y. inr (tags_after xs (step_to s x) (suc n) (k - 1) u.1 o.2 (omega arith) (omega (arith, o.0)))) (cases_eq n d)
      tags_after (x ∷ xs) s n k u (inr o) b c = inr (tags_after xs (step_to s x) n k u.1 o b c)

  module _ (cs : Carries m q core l v a event) where
    core_after : (ns : List ℕ) (s : S) → Numbers (frames_of m l) ns → core (after m s (heard m l a.toggle v ns)) ≡ run q a (core s) (evs s ns)
    core_after [] s u = refl
    core_after (n ∷ ns) s u = core_after ns (step_to s n) u.1 ∙ ap (λ c. run q a c (evs (step_to s n) ns)) (cs.moves s n u.0)

    core_completions : (ns : List ℕ) (s : S) → Numbers (frames_of m l) ns → completions m s (heard m l a.toggle v ns) ≡ run_completions q a (core s) (evs s ns)
    core_completions [] s u = refl
    core_completions (n ∷ ns) s u =
        ap (λ xs. xs ++ completions m (step_to s n) (heard m l a.toggle v ns)) (cs.completes s n u.0)
        ∙ ap (λ xs. completed_here (on_event q a (core s) (event s n)) ++ xs) (core_completions ns (step_to s n) u.1 ∙ ap (λ c. run_completions q a c (evs (step_to s n) ns)) (cs.moves s n u.0))

    all_within : (ns : List ℕ) (s : S) → Numbers (frames_of m l) ns → AllWithin a.count (evs s ns)
    all_within [] s u = tt
    all_within (n ∷ ns) s u = (cs.within s n u.0, all_within ns (step_to s n) u.1)

    pieces_come : (ns : List ℕ) (s : S) (i : ℕ) → i < a.count → Occurs i ns → Among (piece i) (evs s ns)
    pieces_come [] s i c o = absurd o
    pieces_come (n ∷ ns) s i c (inl e) = inl (ap (event s) e ∙ cs.pieces s i c)
    pieces_come (n ∷ ns) s i c (inr o) = inr (pieces_come ns (step_to s n) i c o)

    not_standing : (s : S) → Begins m a.toggle s → stands (core s).standing a.toggle ≡ false
    not_standing s (inl e) = ap (λ o. stands o a.toggle) (sym (cs.standing s) ∙ ap m.standing e ∙ cs.new)
    not_standing s (inr e) = ap (λ o. stands o a.toggle) (sym (cs.standing s) ∙ e) ∙ beq_not a.toggle

    -- the law
    pub hears : (Part : P → Type 0) (Has : P → ℕ → Type 0) → PiecesOf q l.text a.count a.pieces Part Has → Airs l a
        → (s : S) (ns : List ℕ) → Begins m a.toggle s → Numbers (frames_of m l) (0 ∷ ns) → Hears m l a.toggle v s (0 ∷ ns)
    hears Part Has po air s ns b u =
        let first : event s 0 ≡ piece 0 = cs.pieces s 0 air.some in
        let h : HearsEvents q l a (core s) (evs s (0 ∷ ns)) =
        subst (λ e. HearsEvents q l a (core s) (e ∷ evs (step_to s 0) ns)) (sym first)
        (hears_events q l a Part Has po air (core s) (evs (step_to s 0) ns) (not_standing s b) (all_within ns (step_to s 0) u.1)) in
        let r = core_after (0 ∷ ns) s u in
        let c = core_completions (0 ∷ ns) s u in
        record {
          stands = cs.standing _ ∙ ap (λ y. y.standing) r ∙ h.stands;
          once = subst (AtMostOnce l) (sym c) h.once;
          full = λ f.
              let w = h.full (λ i y. pieces_come (0 ∷ ns) s i y (occurs (0 ∷ ns) 0 (frames_of m l) i f (omega arith) (omega (arith, cs.fewer)))) (cs.tags_come s (0 ∷ ns) u f) in
              (subst (Once l) (sym c) w.0, subst (IsLabel l) (sym (cs.told _ ∙ ap (λ y. y.told) r)) w.1);
        }
