use Rattle.dab.specs.Frames.{command_body}
use Rattle.dab.proofs.command.command_frame.Goals as goal

pub returns : goal.returns
unfolding command_body
returns c =
    let t = c.of.ensures in
    let b = c.data-bytes.ensures in
    let d = c.deref.ensures in
    let p = c.of_command.ensures.first in
    let q = c.of_command.ensures.second in
    let f = c.frame.ensures in
    cc
