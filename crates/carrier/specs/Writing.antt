-- What writing a frame means on any carrier: which labels fit, their frames, and where a frame is put.
use Rattle.std.specs.Prelude.{ℕ, ◌-◌, Bool, cond, not, List, ◌∷◌, ◌++◌, length, replicate, Some, None, Option, nat_le, nat_lt}
use Rattle.label.specs.declared.refusal.Refusal.{Refusal}
use Rattle.label.specs.declared.refusal.Refusal.TheVariants.{LabelDoesNotFit, OtherText, SmallBuffer, NoSuchFrame}
use Rattle.label.specs.Drafts.{matches}
use Rattle.label.specs.Label.{Label, Outline}

-- how a carrier writes labels
pub record Writing : Type 0 where
  -- which labels fit, whatever their item bits
  pub fits : Outline → Bool
  -- how many frames a label has
  pub count : Outline → ℕ
  -- a frame, by the label, the message toggle, the service number and the frame's number from 0
  pub frame : Label → Bool → ℕ → ℕ → List ℕ

-- a frame in its place of 21 bytes: its length, itself, zeros
abbrev pub place : List ℕ → List ℕ
place f = length f ∷ (f ++ replicate (20 - length f) 0)

-- why a frame is not written, the smallest number that applies: by whether the label fits and how many frames it has
abbrev pub refusal_by : Bool → ℕ → Outline → List ℕ → ℕ → ℕ → Option Refusal
refusal_by fits count o text number room =
    cond (not fits) (Some LabelDoesNotFit)
    (cond (not (matches o text)) (Some OtherText)
    (cond (nat_lt room 21) (Some SmallBuffer)
    (cond (nat_le count number) (Some NoSuchFrame) None)))

abbrev pub write_refusal : Writing → Outline → List ℕ → ℕ → ℕ → Option Refusal
write_refusal w o text number room = refusal_by (w.fits o) (w.count o) o text number room
