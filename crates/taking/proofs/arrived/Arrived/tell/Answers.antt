use Rattle.std.proofs.Common.{◌≡◌, ◌≤◌, length, ap, ◌∙◌, arith}
use Rattle.label.specs.Lawful.{sealable}
use Rattle.label.specs.Tags.{sounding}
use Rattle.label.proofs.Sounding.{sealable_sounding}
use Rattle.carrier.specs.Listed.{listed}
use Rattle.taking.specs.Views.{tags_of}
use Rattle.taking.proofs.arrived.Arrived.tell.Goals as goal

pub invariant_of-result : goal.invariant_of-result
invariant_of-result c =
    let n = length c.args.text.items in
    let ts = (tags_of c.args.self).tags in
    let came : c.as_slice.result.now ≡ ts = c.as_slice.ensures.value in
    let sounds : c.sounded.result.items ≡ sounding ts = c.sounded.ensures.tags ∙ ap sounding came in
    let few : length (sounding ts) ≤ 4 = omega (arith, ap length sounds, ap length came) in
    record { right = ap (λ xs. sealable (length xs) (listed c.from-2.result)) c.from.ensures ∙ ap (sealable n) (c.from-2.ensures ∙ sounds) ∙ sealable_sounding n ts few c.requires.lawful }
