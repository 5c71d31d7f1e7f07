-- A frame of a label in its place, and the row of the table that the sill's label has there.
use Rattle.std.proofs.Common.{◌≡◌, ℕ, false, List, [], ◌++◌, Some, None, Ok, Option, Result, ap, ◌∙◌}
use Rattle.std.proofs.lemmas.List.{append-nil}
use Rattle.label.specs.declared.refusal.Refusal.{Refusal}
use Rattle.label.specs.declared.tag.ItemBits.{ItemBits}
use Rattle.label.specs.Drafts.{done, left}
use Rattle.label.specs.Label.{Outline, label_of}
use Rattle.carrier.specs.Writing.{Writing, place, write_refusal}
use Rattle.edge.specs.Frames.{service, written, in_row}
use Rattle.edge.specs.Labels.{sill, sill_outline}

-- what a frame leaves in a space that is its place and no more
pub laid : (x : Option Refusal) (new old out : List ℕ) → ◌≡◌ {A = Result (Unit {0}) Refusal} (done x tt) (Ok tt) → out ≡ left x (new ++ []) old → ◌≡◌ {A = Result (List ℕ) Refusal} (Ok out) (done x new)
laid None new old out r e = ap Ok (e ∙ append-nil new)
laid (Some x) new old out r e = cc

-- the sill's label, sealed and outside any item, is the label of the table
pub in_its_row : (w : Writing) (rows : List (List ℕ)) (n : ℕ) (o : Outline) (item : ItemBits) → o ≡ sill_outline → item.toggle ≡ false → item.running ≡ false
    → written w sill_outline sill false service n ≡ in_row rows n
    → done (write_refusal w o sill n 21) (place (w.frame (label_of o item sill) false service n)) ≡ in_row rows n
unfolding written
in_its_row w rows n o item p q r row = rw (p, q, r) row
