-- What holds of each answer that the shared steps may give holds of the steps.
use Rattle.std.proofs.Common.{◌≡◌, ℕ, Bool, true, false, cond, List, length, is_some, Some, None, Option, refl}
use Rattle.carrier.specs.Meaning.{Outcome, answered, refused}
use Rattle.carrier.specs.declared.answer.Answer.TheVariants.{Again, Complete, Dropped, Kept, PassedOver}
use Rattle.label.specs.Label.{Label}
use Rattle.label.specs.Lawful.{lawful}
use Rattle.label.specs.declared.refusal.Refusal.{Refusal}
use Rattle.taking.specs.Pieces.{Pieces}
use Rattle.taking.specs.Taking.{Tags, Taken, agrees, begun, by_look, held_again, holding, met, on_tags, on_text, put_in, settled, stands, tags_met, tags_told}
use Rattle.taking.specs.declared.look.Look.TheVariants.{Behind, Equal, Fresh, Unlike}
use Rattle.taking.specs.declared.look.Look.{Look}

pub holds_cond : {X : Type 0} (H : X → Type 0) (b : Bool) (o p : X) → H o → H p → H (cond b o p)
holds_cond H true o p x y = x
holds_cond H false o p x y = y

-- the answers that may follow the state s, and what is known of the states behind them
pub record Answers {P : Type 0} (s : Taken P) (H : Outcome (Taken P) → Type 0) : Type 0 where
  pub passed_over : H (answered PassedOver s)
  pub again : H (answered Again s)
  pub kept : (u : Taken P) → H (answered Kept u)
  pub dropped : (u : Taken P) → H (answered Dropped u)
  pub complete : (u : Taken P) → is_some u.told ≡ true → H (answered Complete u)
  pub declined : (x : Refusal) → H (refused x)

module _ {P K : Type 0} (q : Pieces P K) (s : Taken P) (H : Outcome (Taken P) → Type 0) (a : Answers s H) where
  settled_holds : (u : Taken P) (o : Option (List ℕ)) (w : Option Tags) → H (settled u o w)
  settled_holds u None w = a.kept u
  settled_holds u (Some x) None = a.kept u
  settled_holds u (Some x) (Some w) = holds_cond H (lawful (length x) w.tags) _ _ (a.complete _ refl) (a.dropped _)

  again_holds : (o : Option Label) → H (held_again s o)
  again_holds None = a.kept s
  again_holds (Some l) = a.again

  put_holds : (k : K) (o : Option Label) → H (put_in q s k o)
  put_holds k None = settled_holds (holding s (q.put s.held k)) (q.text (q.put s.held k)) s.waiting
  put_holds k (Some l) = a.again

  look_holds : (t : Bool) (k : K) (l : Look) → H (by_look q s t k l)
  look_holds t k Behind = a.passed_over
  look_holds t k Equal = again_holds s.told
  look_holds t k Unlike = a.kept (begun q t k)
  look_holds t k Fresh = put_holds k s.told

  pub text_holds : (t : Bool) (k : K) → H (on_text q s t k)
  unfolding on_text
  text_holds t k = holds_cond H (stands s.standing t) _ _ (look_holds t k (q.look s.held k)) (a.kept (begun q t k))

  told_holds : (u : Taken P) (x : List ℕ) (w : Tags) (o : Option Label) → H (tags_told s u x w o)
  told_holds u x w None = a.complete _ refl
  told_holds u x w (Some l) = holds_cond H (agrees l w) _ _ a.again (a.declined _)

  met_holds : (u : Taken P) (w : Tags) (o : Option (List ℕ)) → H (tags_met s u w o)
  met_holds u w None = a.kept _
  met_holds u w (Some x) = holds_cond H (lawful (length x) w.tags) _ _ (told_holds u x w u.told) (a.declined _)

  pub tags_holds : (t : Option Bool) (w : Tags) → H (on_tags q s t w)
  unfolding on_tags
  tags_holds t w = met_holds (met q s t) w (q.text (met q s t).held)
