use Rattle.std.proofs.Common.{rules}
use Rattle.label.specs.Tags.{same_tag}
use Rattle.label.proofs.Sounding.{any_sounding}
use Rattle.label.proofs.alike.is_missing.Goals as goal

pub returns-then-sounds : goal.returns-then-sounds
returns-then-sounds c = let e = any_sounding (same_tag c.args.tag) c.args.list.now in search rules
