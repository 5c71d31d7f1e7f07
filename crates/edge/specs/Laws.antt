-- A carrier's frames of the sill's label in their places are its rows of the table.
use Rattle.std.proofs.Common.{◌≡◌, ℕ, zero, suc, ◌<◌, Bool, true, false, cond, leb, List, [], get_or, Some, None, Ok, Err, refl, ap, arith, leb-false}
use mathlib.Core.Bool.{xor}
use Rattle.label.specs.declared.refusal.Refusal.TheVariants.{NoSuchFrame}
use Rattle.label.specs.Drafts.{done}
use Rattle.carrier.specs.Writing.{place}
use Rattle.fm.specs.Frames.{fm_frame, fm_writing}
use Rattle.dab.specs.Frames.{text_body, command_body, dab_writing}
use Rattle.edge.specs.Frames.{service, sill_on_fm, sill_on_dab, written, in_row}
use Rattle.edge.specs.Labels.{sill, sill_outline, sill_label}

-- a row that is the frame wherever there is one
agreeing : (b : Bool) (x y : List ℕ) → (b ≡ false → x ≡ y) → done (cond b (Some NoSuchFrame) None) x ≡ cond b (Err NoSuchFrame) (Ok y)
agreeing true x y h = refl
agreeing false x y h = ap Ok (h refl)

fm_row : (n : ℕ) → n < 5 → fm_frame sill_label false service n ≡ get_or sill_on_fm n []
unfolding fm_frame
fm_row zero h = refl
fm_row (suc zero) h = refl
fm_row (suc (suc zero)) h = refl
fm_row (suc (suc (suc zero))) h = refl
fm_row (suc (suc (suc (suc zero)))) h = refl
fm_row (suc (suc (suc (suc (suc n))))) h = absurd (omega arith)

dab_row : (n : ℕ) → n < 2 → dab_writing.frame sill_label false service n ≡ get_or sill_on_dab n []
unfolding text_body command_body xor
dab_row zero h = refl
dab_row (suc zero) h = refl
dab_row (suc (suc n)) h = absurd (omega arith)

pub on_fm : (n : ℕ) → written fm_writing sill_outline sill false service n ≡ in_row sill_on_fm n
unfolding written
on_fm n = agreeing (leb 5 n) _ _ (λ h. ap place (fm_row n (leb-false 5 n h)))

pub on_dab : (n : ℕ) → written dab_writing sill_outline sill false service n ≡ in_row sill_on_dab n
unfolding written
on_dab n = agreeing (leb 2 n) _ _ (λ h. ap place (dab_row n (leb-false 2 n h)))
