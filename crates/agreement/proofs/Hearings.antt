-- Every run has full hearings.
use Rattle.std.proofs.Common.{ℕ, zero, suc, ◌+◌, ◌≤◌, Bool, List, [], ◌∷◌, refl, subst, inl, arith}
use Rattle.label.specs.Label.{Label}
use Rattle.carrier.specs.Hearing.{outline_of, frames_of, InOrder, Numbers, Lawful}
use Rattle.carrier.specs.Meaning.{Meaning}
use Rattle.agreement.specs.Runs.{numbers, Undisturbed, takes, Begun, AllHeard, AllFull, on_air, CanBeHeard, count_up, all_frames, full_hearings}
use Rattle.agreement.specs.Shown.{Shown, new_display}
use Rattle.agreement.specs.Station.{Aired}

up_ordered : (k n : ℕ) → InOrder n k (numbers (count_up n k))
unfolding count_up
up_ordered zero n = refl
up_ordered (suc k) n = inl (omega arith, refl, subst (λ j. InOrder (suc n) j (numbers (count_up (suc n) k))) (omega arith) (up_ordered k (suc n)))

up_numbers : (k n c : ℕ) → n + k ≤ c → Numbers c (numbers (count_up n k))
unfolding count_up
up_numbers zero n c h = tt
up_numbers (suc k) n c h = (omega arith, up_numbers k (suc n) c (omega arith))

up_begun : (k : ℕ) → 1 ≤ k → Begun (numbers (count_up 0 k))
unfolding count_up
up_begun zero h = absurd (omega arith)
up_begun (suc k) h = refl

module _ {S : Type 0} (m : Meaning S) (law : Lawful m) (v : ℕ) where
  up_undisturbed : (l : Label) (t : Bool) (k n : ℕ) (s : S) → Undisturbed m l t v s (count_up n k)
  unfolding count_up
  up_undisturbed l t zero n s = tt
  up_undisturbed l t (suc k) n s = up_undisturbed l t k (suc n) _

  pub all_heard : (xs : List Aired) (d : Shown S) → AllHeard m v d xs (full_hearings m xs)
  unfolding full_hearings
  all_heard [] d = tt
  all_heard (x ∷ xs) d =
      let k = frames_of m x.label in (
        record {
          begun = up_begun k (law.some (outline_of x.label));
          its = up_numbers k 0 k (omega arith);
          undisturbed = up_undisturbed x.label x.toggle k 0 d.carrier;
        },
        all_heard xs (takes m x.label x.toggle v d (all_frames (frames_of m x.label))),
      )

  pub all_full : (xs : List Aired) → AllFull m xs (full_hearings m xs)
  unfolding full_hearings
  all_full [] = tt
  all_full (x ∷ xs) = (up_ordered (frames_of m x.label) 0, all_full xs)

pub can_be_heard : {S : Type 0} (m : Meaning S) → Lawful m → CanBeHeard m
can_be_heard m law v ms = record {
  hearings = full_hearings m (on_air m ms);
  heard = all_heard m law v (on_air m ms) (new_display m);
  full = all_full m law v (on_air m ms);
}
