use Rattle.std.proofs.Common.{not, ap, ◌∙◌}
use Rattle.label.specs.Tags.{sounding, has}
use Rattle.label.proofs.Sounding.{all_sounding}
use Rattle.label.proofs.alike.has_each.Goals as goal

pub returns : goal.returns
returns c = ap not c.one_is_missing.ensures ∙ all_sounding (λ t. has t (sounding c.args.list.now)) c.args.tags.now
