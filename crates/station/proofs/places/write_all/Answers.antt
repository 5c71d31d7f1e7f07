use Rattle.std.proofs.Common.{◌+◌, ◌*◌, ◌≤◌, length, sym, ◌∙◌, arith}
use Rattle.carrier.specs.Aired.{frame_of}
use Rattle.station.proofs.Placed.{none_written, one_more, accepted}
use Rattle.station.proofs.places.write_all.Goals as goal

pub loop-number-init : goal.loop-number-init
loop-number-init g c = none_written _ _

pub loop-number-preserved : goal.loop-number-preserved
loop-number-preserved g c =
    let room : 21 * c.loop-number.number + 21 ≤ length c.args.buf.now = omega arith in
    let wrote = accepted _ _ _ _ _ c.write.ensures.space (sym c.write.ensures.reply ∙ c.unwrap.ensures) in
    one_more (frame_of g.C.Carrier.meaning.writing c.args.airing.now) c.loop-number.number c.args.buf.now c.loop-number.buf c.write.new.space c.loop-number.invariant room wrote c.write.auto.space
