-- Answer 2 comes with a label told.
use Rattle.std.proofs.Common.{◌≡◌, Bool, true, cond, is_some, Option, ap, ◌∙◌}
use Rattle.label.specs.declared.refusal.Refusal.{Refusal}
use Rattle.label.specs.Label.{Label}
use Rattle.carrier.specs.declared.answer.Answer.{Answer}
use Rattle.carrier.specs.declared.answer.Answer.TheVariants.{PassedOver, Kept, Complete, Again, Dropped}
use Rattle.carrier.specs.Meaning.{Outcome, answered, refused}
use Rattle.taking.specs.Pieces.{Pieces}
use Rattle.taking.specs.Taking.{Tags, Taken, on_text, on_tags}
use Rattle.taking.proofs.Outcomes.{Answers, holds_cond, tags_holds, text_holds}

abbrev pub Tells : {S : Type 0} → (S → Option Label) → Outcome S → Type 0
Tells {S} told o = (t : S) → o ≡ answered Complete t → is_some (told t) ≡ true

module _ {S : Type 0} (told : S → Option Label) where
  pub tells_cond : (b : Bool) (o p : Outcome S) → Tells told o → Tells told p → Tells told (cond b o p)
  tells_cond = holds_cond (Tells told)

  pub tells_refused : (x : Refusal) → Tells told (refused x)
  tells_refused x t e = absurd (cc)

  pub tells_other : (a : Answer) (u : S) → (a ≡ Complete → ⊥) → Tells told (answered a u)
  tells_other a u n t e = absurd (n cc)

  pub tells_label : (u : S) → is_some (told u) ≡ true → Tells told (answered Complete u)
  tells_label u h t e = let p : t ≡ u = cc in ap (λ x. is_some (told x)) p ∙ h

module _ {P K : Type 0} (q : Pieces P K) (s : Taken P) where
  abbrev told : Taken P → Option Label
  told u = u.told

  tellings : Answers s (Tells told)
  tellings = record {
    passed_over = tells_other told PassedOver s (λ e. cc);
    again = tells_other told Again s (λ e. cc);
    kept = λ u. tells_other told Kept u (λ e. cc);
    dropped = λ u. tells_other told Dropped u (λ e. cc);
    complete = tells_label told;
    declined = tells_refused told;
  }

  pub tells_text : (t : Bool) (k : K) → Tells told (on_text q s t k)
  tells_text = text_holds q s (Tells told) tellings

  pub tells_tags : (t : Option Bool) (w : Tags) → Tells told (on_tags q s t w)
  tells_tags = tags_holds q s (Tells told) tellings
