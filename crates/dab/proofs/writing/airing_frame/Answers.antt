use Rattle.std.proofs.Common.{length, arith}
use Rattle.std.proofs.lemmas.Bool.{le-leb, lt-leb}
use Rattle.dab.specs.Frames.{last_segment}
use Rattle.dab.proofs.writing.airing_frame.Goals as goal

pub returns-then-number-last : goal.returns-then-number-last
returns-then-number-last c = rw (le-leb c.args.number (last_segment (length c.args.airing.now.text.now)) (omega arith)) c.frame.ensures

pub returns-else-number-last : goal.returns-else-number-last
returns-else-number-last c = let t = c.tags.ensures in let e = c.command_frame.ensures in rw (lt-leb c.args.number (last_segment (length c.args.airing.now.text.now)) (omega arith)) cc
