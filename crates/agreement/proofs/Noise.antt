-- Frames of other sources that leave the state may come anywhere in a hearing.
use Rattle.std.proofs.Common.{◌≡◌, ℕ, Bool, List, [], ◌∷◌, ◌++◌, sym, refl, ap, ◌∙◌, subst}
use Rattle.label.specs.Label.{Label}
use Rattle.carrier.specs.declared.answer.Answer.TheVariants.{PassedOver, Kept, Complete, Again, Dropped}
use Rattle.carrier.specs.Hearing.{AtMostOnce, Begins, Hears, IsLabel, Lawful, Numbers, Once, Sendable, after, completed, completions, frames_of, heard}
use Rattle.carrier.specs.Meaning.{Meaning, Outcome, answered, next, refused}
use Rattle.agreement.specs.Noise.{reaching, HearsThroughNoise}
use Rattle.agreement.specs.Runs.{Heard, own, other, Begun, Quiet, Undisturbed, numbers}

module _ {S : Type 0} (m : Meaning S) (law : Lawful m) where
  quiet_next : (s : S) (f : List ℕ) (o : Outcome S) → m.step s f ≡ o → Quiet o → next s o ≡ s
  quiet_next s f (answered PassedOver t) e q = law.follows s t f PassedOver e
  quiet_next s f (answered Kept t) e q = absurd q
  quiet_next s f (answered Complete t) e q = absurd q
  quiet_next s f (answered Again t) e q = law.follows s t f Again e
  quiet_next s f (answered Dropped t) e q = absurd q
  quiet_next s f (refused x) e q = refl

  quiet_none : (o : Outcome S) → Quiet o → completed m o ≡ []
  quiet_none (answered PassedOver t) q = refl
  quiet_none (answered Kept t) q = absurd q
  quiet_none (answered Complete t) q = absurd q
  quiet_none (answered Again t) q = refl
  quiet_none (answered Dropped t) q = absurd q
  quiet_none (refused x) q = refl

  module _ (l : Label) (t : Bool) (v : ℕ) where
    same_after : (hs : List Heard) (s : S) → Undisturbed m l t v s hs → after m s (reaching m l t v hs) ≡ after m s (heard m l t v (numbers hs))
    same_after [] s u = refl
    same_after (own n ∷ hs) s u = same_after hs (next s (m.step s (m.writing.frame l t v n))) u
    same_after (other f ∷ hs) s u = ap (λ x. after m x (reaching m l t v hs)) (quiet_next s f (m.step s f) refl u.0) ∙ same_after hs s u.1

    same_completions : (hs : List Heard) (s : S) → Undisturbed m l t v s hs → completions m s (reaching m l t v hs) ≡ completions m s (heard m l t v (numbers hs))
    same_completions [] s u = refl
    same_completions (own n ∷ hs) s u =
        ap (λ xs. completed m (m.step s (m.writing.frame l t v n)) ++ xs) (same_completions hs (next s (m.step s (m.writing.frame l t v n))) u)
    same_completions (other f ∷ hs) s u =
        ap (λ xs. xs ++ completions m (next s (m.step s f)) (reaching m l t v hs)) (quiet_none (m.step s f) u.0)
        ∙ ap (λ x. completions m x (reaching m l t v hs)) (quiet_next s f (m.step s f) refl u.0)
        ∙ same_completions hs s u.1

    alone : (s : S) (ns : List ℕ) → Sendable m l → Begins m t s → Begun ns → Numbers (frames_of m l) ns → Hears m l t v s ns
    alone s [] z b g h = absurd g
    alone s (n ∷ ns) z b g h = subst (λ k. Hears m l t v s (k ∷ ns)) (sym g) (law.hears l t v s ns z b (subst (λ k. Numbers (frames_of m l) (k ∷ ns)) g h))

pub through_noise : {S : Type 0} (m : Meaning S) → Lawful m → HearsThroughNoise m
through_noise m law l t v s hs z b g h u =
    let w = alone m law l t v s (numbers hs) z b g h in
    let a = same_after m law l t v hs s u in
    let c = same_completions m law l t v hs s u in
    record {
      stands = ap m.standing a ∙ w.stands;
      once = subst (AtMostOnce l) (sym c) w.once;
      full = λ f. let x = w.full f in (subst (Once l) (sym c) x.0, subst (IsLabel l) (sym (ap m.told a)) x.1);
    }
