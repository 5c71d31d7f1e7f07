-- An answer that a label is complete comes with the label.
use Rattle.std.specs.Prelude.{◌≡◌, Bool, true, cond, is_some, Option}
use Rattle.carrier.specs.Meaning.{Outcome, answered, refused}
use Rattle.carrier.specs.declared.answer.Answer.TheVariants.{Again, Complete, Dropped, Kept, PassedOver}
use Rattle.carrier.specs.declared.answer.Answer.{Answer}
use Rattle.label.specs.declared.refusal.Refusal.{Refusal}
use Rattle.taking.specs.Pieces.{Pieces}
use Rattle.taking.specs.Taking.{Tags, Taken, on_tags, on_text}
use Rattle.taking.proofs.Telling.{tells_label, tells_other}
use Rattle.taking.proofs.Outcomes.{holds_cond}

abbrev pub Tells : {P : Type 0} → Outcome (Taken P) → Type 0
Tells {P} o = (u : Taken P) → o ≡ answered Complete u → is_some u.told ≡ true

-- the answer has its label, where it needs one
abbrev HasLabel : {P : Type 0} → Answer → Taken P → Type 0
HasLabel PassedOver s = Unit {0}
HasLabel Kept s = Unit {0}
HasLabel Complete s = is_some s.told ≡ true
HasLabel Again s = Unit {0}
HasLabel Dropped s = Unit {0}

module _ {P : Type 0} where
  pub tells_answer : (a : Answer) (s : Taken P) → HasLabel a s → Tells (answered a s)
  tells_answer PassedOver s h = tells_other (λ u. u.told) PassedOver s (λ e. cc)
  tells_answer Kept s h = tells_other (λ u. u.told) Kept s (λ e. cc)
  tells_answer Complete s h = tells_label (λ u. u.told) s h
  tells_answer Again s h = tells_other (λ u. u.told) Again s (λ e. cc)
  tells_answer Dropped s h = tells_other (λ u. u.told) Dropped s (λ e. cc)

  pub tells_refused : (x : Refusal) → Tells {P = P} (refused x)
  tells_refused x = Rattle.taking.proofs.Telling.tells_refused (λ u. u.told) x

  pub tells_cond : (b : Bool) (o p : Outcome (Taken P)) → Tells o → Tells p → Tells (cond b o p)
  tells_cond = holds_cond Tells

module _ {P K : Type 0} (q : Pieces P K) (s : Taken P) where
  pub tells_text : (t : Bool) (k : K) → Tells (on_text q s t k)
  tells_text = Rattle.taking.proofs.Telling.tells_text q s

  pub tells_tags : (t : Option Bool) (w : Tags) → Tells (on_tags q s t w)
  tells_tags = Rattle.taking.proofs.Telling.tells_tags q s
