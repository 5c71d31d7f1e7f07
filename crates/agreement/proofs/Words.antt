-- The tests on a history say what their words say.
use Rattle.std.proofs.Common.{◌≡◌, ℕ, Bool, true, false, cond, List, [], ◌∷◌, ◌++◌, Some, None, sym, refl, ap, subst, arith}
use Rattle.label.specs.declared.refusal.Refusal.TheVariants.{ItemStarted, NoItemRuns}
use Rattle.agreement.specs.History.{Event, started, ended, sent, only, behind_label, start_since_label, item_runs}
use Rattle.agreement.specs.Words.{NoLabel, OnlyLabels, StartSinceLabel, LastIsStart, HistoryInWords}

no : {X : Type 0} → false ≡ true → X
no e = absurd (let z : ◌≡◌ {A = ℕ} 0 1 = cc in omega arith)

since_found : (h : List Event) → start_since_label h ≡ true → StartSinceLabel h
unfolding only behind_label
since_found [] e = no e
since_found (started ∷ h) e = record { later = []; earlier = h; at = refl; none = tt }
since_found (ended ∷ h) e = let w = since_found h e in record { later = ended ∷ w.later; earlier = w.earlier; at = ap (λ x. ended ∷ x) w.at; none = w.none }
since_found (sent l ∷ h) e = no e

since_at : (later earlier : List Event) → NoLabel later → start_since_label (later ++ (started ∷ earlier)) ≡ true
unfolding only behind_label
since_at [] earlier n = refl
since_at (started ∷ h) earlier n = refl
since_at (ended ∷ h) earlier n = since_at h earlier n
since_at (sent l ∷ h) earlier n = absurd n

runs_found : (h : List Event) → item_runs h ≡ true → LastIsStart h
unfolding only
runs_found [] e = no e
runs_found (started ∷ h) e = record { later = []; earlier = h; at = refl; none = tt }
runs_found (ended ∷ h) e = no e
runs_found (sent l ∷ h) e = let w = runs_found h e in record { later = sent l ∷ w.later; earlier = w.earlier; at = ap (λ x. sent l ∷ x) w.at; none = w.none }

runs_at : (later earlier : List Event) → OnlyLabels later → item_runs (later ++ (started ∷ earlier)) ≡ true
unfolding only
runs_at [] earlier n = refl
runs_at (started ∷ h) earlier n = absurd n
runs_at (ended ∷ h) earlier n = absurd n
runs_at (sent l ∷ h) earlier n = runs_at h earlier n

since_started : (h : List Event) → StartSinceLabel h → start_since_label h ≡ true
since_started h w = subst (λ x. start_since_label x ≡ true) (sym w.at) (since_at w.later w.earlier w.none)

runs_started : (h : List Event) → LastIsStart h → item_runs h ≡ true
runs_started h w = subst (λ x. item_runs x ≡ true) (sym w.at) (runs_at w.later w.earlier w.none)

-- a test that nothing meets
unmet : {X : Type 0} (b : Bool) → (b ≡ true → X) → (X → ⊥) → b ≡ false
unmet true f n = absurd (n (f refl))
unmet false f n = refl

pub in_words : HistoryInWords
in_words h = record {
  start_refused = λ w. ap (λ b. cond b (Some ItemStarted) None) (since_started h w);
  start_done = λ n. ap (λ b. cond b (Some ItemStarted) None) (unmet (start_since_label h) (since_found h) n);
  end_done = λ w. ap (λ b. cond b None (Some NoItemRuns)) (runs_started h w);
  end_refused = λ n. ap (λ b. cond b None (Some NoItemRuns)) (unmet (item_runs h) (runs_found h) n);
  running = (runs_found h, runs_started h);
}
