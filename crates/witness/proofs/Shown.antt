-- The run of "Sill 2.4 m", and what is held after it.
use mathlib.Core.Path.{◌≡◌, refl, ◌∙◌}
use mathlib.Core.List.{List, [], ◌∷◌}
use mathlib.Core.Logic.{inl, inr}
use Prim.Native.Nat.{ℕ}
use native.Mathlib.Omega.{arith}
use Rattle.label.specs.Label.{Label, marked, deletes_in}
use Rattle.carrier.specs.Meaning.{Meaning}
use Rattle.agreement.specs.Calls.{Ready, calls}
use Rattle.agreement.specs.History.{only, behind_label, labels_back, odd, history}
use Rattle.agreement.specs.Holds.{Decides}
use Rattle.agreement.specs.Rules.{empty, on_labels}
use Rattle.agreement.specs.Runs.{Heard, AllFull, on_air, held, sent_by, Agreement, Run}
use Rattle.agreement.specs.Station.{aired}
use Rattle.agreement.proofs.Held.{rules_hold}
use Rattle.dab.specs.Taking.{dab, step_by}
use Rattle.fm.specs.Taking.{fm}
use Rattle.witness.specs.Sill.{outline, programme, fm_hearings, dab_hearings, Shows, ShowsOnBoth}

label : Ready
label = record { outline = outline; some = omega arith; short = omega arith; right = refl }

fm_run : (v : ℕ) → Run fm v (programme label) fm_hearings
unfolding label aired
fm_run v = record {
  ample = (tt, ((refl, λ _. omega arith), (tt, tt)));
  heard = (
    record {
      begun = refl;
      its = (omega arith, (omega arith, (omega arith, (omega arith, (omega arith, (omega arith, tt))))));
      undisturbed = (tt, tt);
    },
    tt,
  );
}

fm_full : AllFull fm (on_air fm (programme label)) fm_hearings
unfolding label aired
fm_full = (inl (omega arith, refl, inl (omega arith, refl, inr (inl (omega arith, refl, inl (omega arith, refl, inl (omega arith, refl, refl)))))), tt)

dab_run : (v : ℕ) → Run dab v (programme label) dab_hearings
unfolding label aired step_by
dab_run v = record {
  ample = (tt, ((refl, λ _. omega arith), (tt, tt)));
  heard = (
    record {
      begun = refl;
      its = (omega arith, (omega arith, (omega arith, tt)));
      undisturbed = (tt, tt);
    },
    tt,
  );
}

dab_full : AllFull dab (on_air dab (programme label)) dab_hearings
unfolding label aired
dab_full = (inl (omega arith, refl, inr (inl (omega arith, refl, refl))), tt)

labels : List Label
labels = sent_by (calls (programme label))

title : (on_labels empty labels).row 1 ≡ 0x53 ∷ 0x69 ∷ 0x6C ∷ 0x6C ∷ []
unfolding labels label on_labels history labels_back only behind_label odd marked deletes_in
title = refl

depth : (on_labels empty labels).row 56 ≡ 0x32 ∷ 0x2E ∷ 0x34 ∷ []
unfolding labels label on_labels history labels_back only behind_label odd marked deletes_in
depth = refl

-- the history decides, and the rules meet it
module _ {S : Type 0} (m : Meaning S) (hearings : List (List Heard)) (agree : Agreement m m) (decides : Decides) (run : (v : ℕ) → Run m v (programme label) hearings) (full : AllFull m (on_air m (programme label)) hearings) where
  by_rules : (v c : ℕ) → held m v (programme label) hearings c ≡ (on_labels empty labels).row c
  unfolding labels
  by_rules v c = decides c labels _ _ ((agree v v (programme label) (programme label) hearings hearings refl (run v) (run v)).first.holds full c) (rules_hold labels c)

  shows : (v : ℕ) → Shows m hearings v
  unfolding label
  shows v = record {
    label = label;
    sealed = refl;
    run = run v;
    full = full;
    title = by_rules v 1 ∙ title;
    depth = by_rules v 56 ∙ depth;
  }

pub on_both : Agreement fm fm → Agreement dab dab → Decides → ShowsOnBoth
on_both f d decides = record { on_fm = shows fm fm_hearings f decides fm_run fm_full; on_dab = shows dab dab_hearings d decides dab_run dab_full }
