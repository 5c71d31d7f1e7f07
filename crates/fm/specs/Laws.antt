-- FM shows the laws of every carrier.
use Rattle.std.specs.Prelude.{◌≡◌, ℕ, suc, ◌+◌, ◌/◌, ◌%◌, ◌<◌, ◌≤◌, Bool, true, false, cond, ◌&&◌, List, [], ◌∷◌, length, is_some, Some, None, Option, ◌==◌, refl}
use Rattle.std.proofs.Common.{sym, ap, subst, ◌∙◌, ⊎_elim, arith}
use Rattle.std.proofs.lemmas.Bool.Decides.{nat_tests}
use Rattle.std.proofs.lemmas.Grind.{common_steps}
use Rattle.std.proofs.lemmas.Bool.{cases_lt, cases_eq}
use Rattle.label.specs.declared.refusal.Refusal.{Refusal}
use Rattle.label.specs.declared.refusal.Refusal.TheVariants.{WrongSize, UnusableGroup}
use Rattle.label.specs.declared.tag.Tag.{Tag}
use Rattle.label.specs.Label.{Label}
use Rattle.carrier.specs.declared.answer.Answer.{Answer}
use Rattle.carrier.specs.declared.answer.Answer.TheVariants.{PassedOver, Kept, Complete, Again, Dropped}
use Rattle.carrier.specs.Answers.{answer_case}
use Rattle.carrier.specs.Hearing.{frames_of, completed, Begins, Numbers, Hears, Sendable, Lawful}
use Rattle.carrier.specs.Meaning.{Outcome, answered, refused, next}
use Rattle.taking.specs.Events.{Event, piece, tags, aside, on_event, completed_here, Within, Carries}
use Rattle.taking.specs.Segments.{Held, numbered}
use Rattle.taking.specs.Taking.{Tags, Taken, on_text, on_tags}
use Rattle.taking.proofs.Carried.{hears, tags_after}
use Rattle.taking.proofs.Idling.{Still, still_same, still_refused, still_answer, still_text, still_tags}
use Rattle.taking.proofs.Joining.{Part, Has, segment_pieces}
use Rattle.taking.proofs.Outcomes.{holds_cond}
use Rattle.taking.proofs.Telling.{Tells, tells_refused, tells_other, tells_text, tells_tags}
use Rattle.fm.specs.Frames.{last_segment, segment, text_frame, announcing_frame, sent_tags, first_tag, second_tag, bits_frame, tags_frame, fm_frame}
use Rattle.fm.specs.Taking.{FmState, group_of, version_of, own_bits, announces, ert_flag, usable, learns, lifted, with_group, step_a, has_learnt, text_toggle, text_piece, read_bits, unpacked, fm_step, fm, fm_air, fm_event}
use Rattle.fm.specs.Text.{fm_segments, fm_pieces}
use Rattle.fm.specs.Aired.{fm_airs}
use Rattle.fm.specs.Bits.{fm_fitting, tags_read, bits_small}
use Rattle.fm.specs.FramesLemmas.{text_at, announcing_at, tags_at, last_few}
use Rattle.fm.specs.Texts.{fm_text}

abbrev last_of : Label → ℕ
last_of l = last_segment (length l.text)

two_tags : (ts : List Tag) → sent_tags ts ≡ first_tag (sent_tags ts) ∷ second_tag (sent_tags ts) ∷ []
two_tags [] = refl
two_tags (t ∷ []) = refl
two_tags (t ∷ (u ∷ us)) = grind arith

-- a segment has four bytes
segment_long : (x : List ℕ) → length x ≤ 64 → (i : ℕ) → i ≤ last_segment (length x) → length (segment x i) ≡ 4
segment_long x c i h = grind (arith, nat_tests, common_steps)

-- what each frame does
step_text : (s : FmState) (x : List ℕ) (t : Bool) (v n : ℕ) → n < 16 → length (segment x n) ≡ 4
    → fm_step s (text_frame x t v n) ≡ lifted s (on_text fm_pieces s.core t (numbered (segment x) n))
step_text s x t v n c e =
    let f = text_frame x t v n in
    let size : length f ≡ 8 = omega (arith, e) in
    let version : version_of f ≡ 0 = grind arith in
    let group : group_of f ≡ 2 = grind arith in
    let toggle : text_toggle f ≡ t = grind (arith, nat_tests) in
    let number : own_bits f % 16 ≡ n = grind arith in
    grind arith

step_announcing : (s : FmState) (v : ℕ) → fm_step s (announcing_frame v) ≡ answered Kept (with_group s (Some 11))
step_announcing s v = refl

step_bits : (s : FmState) (v n : ℕ) → n < 137438953472
    → fm_step s (bits_frame v n) ≡ cond (has_learnt s.group 11) (lifted s (on_tags fm_pieces s.core None (unpacked (read_bits (bits_frame v n))))) (answered PassedOver s)
step_bits s v n c = grind (arith, nat_tests)

-- a step beside the shared rules' step
pub record Follows (s : FmState) (o : Outcome FmState) (r : Outcome (Taken (Held (List ℕ)))) : Type 0 where
  pub moves : (next s o).core ≡ next s.core r
  pub completes : completed fm o ≡ completed_here r
  pub learnt : has_learnt s.group 11 ≡ true → has_learnt (next s o).group 11 ≡ true

follows_lifted : (s : FmState) (r : Outcome (Taken (Held (List ℕ)))) → Follows s (lifted s r) r
follows_lifted s (answered a u) = record { moves = refl; completes = refl; learnt = λ h. h }
follows_lifted s (refused e) = record { moves = refl; completes = refl; learnt = λ h. h }

module _ (l : Label) (t : Bool) (v : ℕ) (z : Sendable fm l) (short : length l.text ≤ 64) (few : length l.tags ≤ 2) where
  abbrev tags_sent : Tags
  tags_sent = record { item = l.item; tags = sent_tags l.tags }

  event_text : (s : FmState) (n : ℕ) → n ≤ last_of l → fm_event l s n ≡ piece n
  event_text s n c = grind (arith, nat_tests)

  event_aside : (s : FmState) (n : ℕ) → n ≡ last_of l + 1 → fm_event l s n ≡ aside
  event_aside s n c = grind (arith, nat_tests)

  event_tags : (s : FmState) (n : ℕ) → last_of l + 1 < n → fm_event l s n ≡ cond (has_learnt s.group 11) tags aside
  event_tags s n c = grind (arith, nat_tests)

  tags_back : unpacked (read_bits (tags_frame l.item l.tags v)) ≡ tags_sent
  tags_back =
      let f = fm_fitting l z short few in
      tags_read l.item (first_tag (sent_tags l.tags)) (second_tag (sent_tags l.tags)) v f.first f.second
      ∙ ap (λ ts. record { item = l.item; tags = ts }) (sym (two_tags l.tags))

  step_tags : (s : FmState) → fm_step s (tags_frame l.item l.tags v) ≡ cond (has_learnt s.group 11) (lifted s (on_tags fm_pieces s.core None tags_sent)) (answered PassedOver s)
  step_tags s =
      let f = fm_fitting l z short few in
      step_bits s v _ (bits_small l.item (first_tag (sent_tags l.tags)) (second_tag (sent_tags l.tags)) f.first f.second)
      ∙ ap (λ w. cond (has_learnt s.group 11) (lifted s (on_tags fm_pieces s.core None w)) (answered PassedOver s)) tags_back

  follows_tags : (b : Bool) (s : FmState) → has_learnt s.group 11 ≡ b
      → Follows s (cond b (lifted s (on_tags fm_pieces s.core None tags_sent)) (answered PassedOver s)) (on_event fm_pieces (fm_air l t) s.core (cond b tags aside))
  follows_tags true s e = follows_lifted s (on_tags fm_pieces s.core None tags_sent)
  follows_tags false s e = record { moves = refl; completes = refl; learnt = λ h. h }

  follows_by : (s : FmState) (f g : List ℕ) (o : Outcome FmState) (e d : Event) → f ≡ g → fm_step s g ≡ o → e ≡ d → Follows s o (on_event fm_pieces (fm_air l t) s.core d) → Follows s (fm_step s f) (on_event fm_pieces (fm_air l t) s.core e)
  follows_by s f g o e d p q r h =
      subst (λ x. Follows s x (on_event fm_pieces (fm_air l t) s.core e)) (sym (ap (fm_step s) p ∙ q)) (subst (λ x. Follows s o (on_event fm_pieces (fm_air l t) s.core x)) (sym r) h)

  follows : (s : FmState) (n : ℕ) → Follows s (fm_step s (fm_frame l t v n)) (on_event fm_pieces (fm_air l t) s.core (fm_event l s n))
  follows s n =
      ⊎_elim
      (λ (c : n < last_of l + 1). follows_by s _ _ _ _ _ (text_at l t v n (omega arith)) (step_text s l.text t v n (omega (arith, last_few (length l.text))) (segment_long l.text short n (omega arith))) (event_text s n (omega arith)) (follows_lifted s (on_text fm_pieces s.core t (numbered (segment l.text) n))))
      (λ (c : last_of l + 1 ≤ n). ⊎_elim
      (λ (e : n ≡ last_of l + 1). follows_by s _ _ _ _ _ (announcing_at l t v n e) (step_announcing s v) (event_aside s n e) (record { moves = refl; completes = refl; learnt = λ h. refl }))
      (λ (e : n ≡ last_of l + 1 → ⊥). follows_by s _ _ _ _ _ (tags_at l t v n (omega arith)) (step_tags s) (event_tags s n (omega arith)) (follows_tags (has_learnt s.group 11) s refl))
      (cases_eq n (last_of l + 1)))
      (cases_lt n (last_of l + 1))

  within : (s : FmState) (n : ℕ) → Within (suc (last_of l)) (fm_event l s n)
  within s n = grind (arith, nat_tests)

  makes : (s : FmState) → has_learnt (next s (fm_step s (fm_frame l t v (last_of l + 1)))).group 11 ≡ true
  makes s = ap (λ o. has_learnt (next s o).group 11) (ap (fm_step s) (announcing_at l t v (last_of l + 1) refl) ∙ step_announcing s v)

  fm_carries : Carries fm fm_pieces (λ s. s.core) l v (fm_air l t) (fm_event l)
  fm_carries = record {
    standing = λ s. refl;
    told = λ s. refl;
    new = refl;
    fewer = omega arith;
    pieces = λ s i c. event_text s i (omega arith);
    within = λ s n _. within s n;
    moves = λ s n _. (follows s n).moves;
    completes = λ s n _. (follows s n).completes;
    tags_come = λ s ns u f. tags_after fm fm_pieces (λ s. s.core) l v (fm_air l t) (fm_event l) (λ s. has_learnt s.group 11 ≡ true) (last_of l + 2)
        (λ s n _ h. (follows s n).learnt h) (λ s h. event_tags s (last_of l + 2) (omega arith) ∙ ap (λ b. cond b tags aside) h)
        (last_of l + 1) (omega arith) makes ns s 0 (last_of l + 3) u f (omega arith) (omega arith);
  }

  pub fm_hears : (s : FmState) (ns : List ℕ) → Begins fm t s → Numbers (frames_of fm l) (0 ∷ ns) → Hears fm l t v s (0 ∷ ns)
  fm_hears s ns b u =
      let so = fm_text l.text z.clean short in
      hears fm fm_pieces (λ s. s.core) l v (fm_air l t) (fm_event l) fm_carries
      (Part fm_segments l.text (last_of l) (segment l.text) so) (Has fm_segments l.text (last_of l) (segment l.text) so)
      (segment_pieces fm_segments l.text (last_of l) (segment l.text) so) (fm_airs l t z few) s ns b u

-- what holds of each answer that a step may give holds of the step
module _ (s : FmState) (f : List ℕ) (H : Outcome FmState → Type 0) (passed : H (answered PassedOver s)) (kept : (g : Option ℕ) → H (answered Kept (with_group s g))) (declined : (x : Refusal) → H (refused x))
    (text : H (lifted s (on_text fm_pieces s.core (text_toggle f) (text_piece f)))) (own_tags : H (lifted s (on_tags fm_pieces s.core None (unpacked (read_bits f))))) where
  learning : H (learns s f)
  learning = holds_cond H (ert_flag f) _ _ (kept None) (holds_cond H (own_bits f % 2 == 0 && usable (own_bits f / 2)) _ _ (kept (Some (own_bits f / 2))) (declined UnusableGroup))

  of_a : H (step_a s f)
  of_a = holds_cond H (group_of f == 2) _ _ text (holds_cond H (announces f) _ _ learning (holds_cond H (has_learnt s.group (group_of f)) _ _ own_tags passed))

  of_step : H (fm_step s f)
  of_step = holds_cond H (length f == 8) _ _ (holds_cond H (version_of f == 0) _ _ of_a passed) (declined WrongSize)

-- the states that follow
still_lifted : (s : FmState) (r : Outcome (Taken (Held (List ℕ)))) → Still s.core r → Still s (lifted s r)
still_lifted s (answered a u) h = still_answer s a (record { core = u; group = s.group }) (lift a (h a u refl))
  where
    lift : (b : Answer) → (answer_case b).after s.core u → (answer_case b).after s (record { core = u; group = s.group })
    lift PassedOver e = ap (λ x. record { core = x; group = s.group }) e
    lift Kept e = tt
    lift Complete e = tt
    lift Again e = ap (λ x. record { core = x; group = s.group }) e
    lift Dropped e = tt
still_lifted s (refused x) h = still_refused s x

fm_still : (s : FmState) (f : List ℕ) → Still s (fm_step s f)
fm_still s f =
    of_step s f (Still s) (still_same s PassedOver) (λ g. still_answer s Kept _ tt) (still_refused s)
    (still_lifted s _ (still_text fm_pieces s.core (text_toggle f) (text_piece f)))
    (still_lifted s _ (still_tags fm_pieces s.core None (unpacked (read_bits f))))

fits_parts : (l : Label) → Sendable fm l → (length l.text ≤ 64) × (length l.tags ≤ 2)
fits_parts l z = grind (arith, nat_tests)

fm_sized : (l : Label) (t : Bool) (v n : ℕ) → length l.text ≤ 64 → length (fm_frame l t v n) ≡ 8
unfolding fm_frame
fm_sized l t v n c = grind (arith, nat_tests, segment_long l.text c)

-- answer 2 comes with a label
tells_lifted : (s : FmState) (r : Outcome (Taken (Held (List ℕ)))) → Tells (λ u. u.told) r → Tells fm.told (lifted s r)
tells_lifted s (answered a u) h w e = let p : a ≡ Complete = cc in let q : w ≡ record { core = u; group = s.group } = cc in ap (λ x. is_some x.core.told) q ∙ h u (ap (λ b. answered b u) p)
tells_lifted s (refused x) h w e = tells_refused fm.told x w e

fm_tells : (s : FmState) (f : List ℕ) → Tells fm.told (fm_step s f)
fm_tells s f =
    of_step s f (Tells fm.told) (tells_other fm.told PassedOver s (λ e. cc)) (λ g. tells_other fm.told Kept _ (λ e. cc)) (tells_refused fm.told)
    (tells_lifted s _ (tells_text fm_pieces s.core (text_toggle f) (text_piece f)))
    (tells_lifted s _ (tells_tags fm_pieces s.core None (unpacked (read_bits f))))

pub fm_lawful : Lawful fm
fm_lawful = record {
  some = λ o. omega arith;
  sized = λ l t v n _ z. let e = fm_sized l t v n (fits_parts l z).0 in (omega arith, omega arith);
  follows = λ s t f a e. fm_still s f a t e;
  tells = λ s t f e. fm_tells s f t e;
  new = refl;
  hears = λ l t v s ns z b u. fm_hears l t v z (fits_parts l z).0 (fits_parts l z).1 s ns b u;
}
