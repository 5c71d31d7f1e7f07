use Rattle.std.proofs.Common.{not, ap, ◌∙◌}
use Rattle.label.specs.Tags.{lies_in}
use Rattle.label.proofs.Sounding.{all_sounding}
use Rattle.label.proofs.lawful.lie_inside.Goals as goal

pub returns : goal.returns
returns c = ap not c.one_leaves.ensures ∙ all_sounding (lies_in c.args.len) c.args.tags.now
