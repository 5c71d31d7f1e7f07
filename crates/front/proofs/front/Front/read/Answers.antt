use Rattle.std.proofs.Common.{ap, ◌∙◌}
use Rattle.display.specs.View.{view}
use Rattle.front.specs.Reading.{reading_of}
use Rattle.front.proofs.Copied.{copied}
use Rattle.front.proofs.front.Front.read.Goals as goal

pub returns-in-Ok : goal.returns-in-Ok
returns-in-Ok g c =
    c.show.ensures
    ∙ ap reading_of (copied ((view g.C.Carrier.state c.args.display.now).table.row 56) _ c.read.new.buf c.in-Ok.n c.in-Ok.ensures.reply c.in-Ok.ensures.buffer)
