use Rattle.dab.specs.Frames.{text_body}
use Rattle.dab.proofs.text.Filled+128.frame.Goals as goal

pub returns : goal.returns
unfolding text_body
returns c =
    let s = c.segment-load.ensures in
    let l = c.last.ensures in
    let p = c.of_text.ensures.first in
    let q = c.of_text.ensures.second in
    let f = c.frame.ensures in
    cc
