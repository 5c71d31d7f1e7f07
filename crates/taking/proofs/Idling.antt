-- The states that follow the answers of the shared steps.
use Rattle.std.proofs.Common.{◌≡◌, Bool, cond, Option, refl, subst}
use Rattle.carrier.specs.Answers.{answer_case}
use Rattle.carrier.specs.Meaning.{Outcome, answered, refused}
use Rattle.carrier.specs.declared.answer.Answer.TheVariants.{Again, Complete, Dropped, Kept, PassedOver}
use Rattle.carrier.specs.declared.answer.Answer.{Answer}
use Rattle.label.specs.declared.refusal.Refusal.{Refusal}
use Rattle.taking.specs.Pieces.{Pieces}
use Rattle.taking.specs.Taking.{Tags, Taken, on_tags, on_text}
use Rattle.taking.proofs.Outcomes.{Answers, holds_cond, tags_holds, text_holds}

abbrev pub Still : {S : Type 0} → S → Outcome S → Type 0
Still {S} s o = (a : Answer) (u : S) → o ≡ answered a u → (answer_case a).after s u

module _ {S : Type 0} (s : S) where
  -- an answer that leaves the state
  all_cases : (b : Answer) → (answer_case b).after s s
  all_cases PassedOver = refl
  all_cases Kept = tt
  all_cases Complete = tt
  all_cases Again = refl
  all_cases Dropped = tt

  pub still_answer : (b : Answer) (t : S) → (answer_case b).after s t → Still s (answered b t)
  still_answer b t h a u e =
      let x : b ≡ a = cc in
      let y : t ≡ u = cc in
      subst (λ z. (answer_case a).after s z) y (subst (λ z. (answer_case z).after s t) x h)

  pub still_same : (b : Answer) → Still s (answered b s)
  still_same b = still_answer b s (all_cases b)

  pub still_refused : (x : Refusal) → Still s (refused x)
  still_refused x a u e = absurd (cc)

  pub still_cond : (b : Bool) (o p : Outcome S) → Still s o → Still s p → Still s (cond b o p)
  still_cond = holds_cond (Still s)

module _ {P K : Type 0} (q : Pieces P K) (s : Taken P) where
  stills : Answers s (Still s)
  stills = record {
    passed_over = still_same s PassedOver;
    again = still_same s Again;
    kept = λ u. still_answer s Kept u tt;
    dropped = λ u. still_answer s Dropped u tt;
    complete = λ u _. still_answer s Complete u tt;
    declined = still_refused s;
  }

  pub still_text : (t : Bool) (k : K) → Still s (on_text q s t k)
  still_text = text_holds q s (Still s) stills

  pub still_tags : (t : Option Bool) (w : Tags) → Still s (on_tags q s t w)
  still_tags = tags_holds q s (Still s) stills
