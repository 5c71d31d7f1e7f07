use Rattle.std.proofs.Common.{◌≡◌, ◌≤◌, ℕ, Bool, List, length, Ok, arith, length-take}
use Rattle.std.proofs.lemmas.Bool.Decides.{nat_tests}
use Rattle.label.specs.Drafts.{done}
use Rattle.label.specs.Label.{Outline}
use Rattle.carrier.specs.Aired.{outline}
use Rattle.carrier.specs.Writing.{refusal_by}
use Rattle.fm.proofs.as_carrier.FmCarrier.write.Goals as goal

-- a frame is written only where its place is
room_for : (fits : Bool) (count : ℕ) (o : Outline) (text : List ℕ) (n room : ℕ) → (x : Unit {0}) → Ok x ≡ done (refusal_by fits count o text n room) (tt {0}) → 21 ≤ room
room_for fits count o text n room x e = grind (arith, nat_tests)

pub copy_from_slice-requires : goal.copy_from_slice-requires
copy_from_slice-requires c =
    let a = c.args.airing.now in
    let r = room_for c.fits.result c.count.result (outline a) a.text.now c.args.number (length c.args.space.now) c.in_ok-may_write.field-0 c.in_ok-may_write.ensures.value in
    simp length-take (omega arith)
