use Rattle.carrier.specs.Aired.{frame_of}
use Rattle.station.proofs.Placed.{Written}
use Rattle.station.proofs.places.write_all.Given as goal

abbrev pub invariant-loop-number : goal.invariant-loop-number
invariant-loop-number g l = Written (frame_of g.C.Carrier.meaning.writing l.airing) l.number l.initial.buf l.buf
