use Rattle.std.proofs.Common.{codes, ◌++◌, ap, ◌∙◌}
use Rattle.std.specs.Vec.{vec_items}
use Rattle.programme.proofs.Decimals.{depth_shown}
use Rattle.programme.proofs.text.reading_text.Goals as goal

pub returns : goal.returns
returns c =
    ap vec_items c.into_bytes.ensures.value
    ∙ c.in_ok-text.ensures.ok
    ∙ ap (λ x. codes "Sill " ++ x) (depth_shown c.args.tenths (codes " m") c.requires)
