use Rattle.std.proofs.Common.{◌≡◌, ◌++◌, ◌∙◌, ap, rules, get_or, take}
use Rattle.std.specs.Fmt.{HasWritten}
use Rattle.std.proofs.Output.{has_written_append, has_written_of_eq}
use Rattle.lines.specs.Form.{gap, hex, line_text}
use Rattle.lines.proofs.Bytes.{line_more}
use Rattle.lines.proofs.form.LineDisplay.fmt.Goals as goal

pub loop-at-preserved : goal.loop-at-preserved
loop-at-preserved g c = λ p.
    let form = c.args.self.now.form in
    let frame = c.args.self.now.frame.now in
    let at = c.loop-at.at in
    let gives = g.W.Write.write_str_gives in
    let space : HasWritten gives c.loop-at.f c.gap.result.now c.write_str.new.self = search rules in
    let high : HasWritten gives c.write_str.new.self c.digit.result.now c.write_str-in-loop-at.new.self = search rules in
    let low : HasWritten gives c.write_str-in-loop-at.new.self c.digit-in-loop-at.result.now c.write_str-in-loop-at-2.new.self = search rules in
    let is : c.gap.result.now ++ (c.digit.result.now ++ c.digit-in-loop-at.result.now) ≡ gap form at ++ hex (get_or frame at 0) = search rules in
    has_written_of_eq _ _ _ _ _ (ap (λ x. line_text form (take at frame) ++ x) is ∙ line_more form frame at c.loop-at-test.true)
    (has_written_append _ _ _ _ _ _ (c.loop-at.invariant p) (has_written_append _ _ _ _ _ _ space (has_written_append _ _ _ _ _ _ high low)))
