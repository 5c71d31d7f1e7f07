use Rattle.std.proofs.Common.{rules, ap, ◌∙◌}
use Rattle.label.specs.Tags.{sounding}
use Rattle.taking.proofs.Sounding.{retains_sounding}
use Rattle.taking.proofs.tell.sounded.Goals as goal

pub returns-clause-tags : goal.returns-clause-tags
returns-clause-tags c =
    let held = rw c.unwrap-sounding.ensures at c.try_from.ensures in
    retains_sounding _ (λ s t b u v r. search rules) _ _ _ c.retain.ensures.filtered ∙ ap sounding held.0
