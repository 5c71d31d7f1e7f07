use Rattle.std.proofs.Common.{◌≡◌, not, ◌∙◌, rules}
use Rattle.label.specs.Lawful.{accompanied}
use Rattle.label.proofs.Sounding.{accompanied_sounding}
use Rattle.label.proofs.lawful.are_accompanied.Goals as goal

pub returns-then-not-has_descriptor : goal.returns-then-not-has_descriptor
returns-then-not-has_descriptor c = let h : not c.has_descriptor.result ≡ accompanied c.args.tags.now = search rules in h ∙ accompanied_sounding c.args.tags.now

pub returns-else-not-has_descriptor : goal.returns-else-not-has_descriptor
returns-else-not-has_descriptor c = let h : c.has_other.result ≡ accompanied c.args.tags.now = search rules in h ∙ accompanied_sounding c.args.tags.now
