use Rattle.std.proofs.Common.{◌+◌, ◌-◌, suc, length, is_some, drop, ◌∙◌, ap, add-one, arith, length-drop}
use Rattle.std.specs.List.{list_any}
use Rattle.std.proofs.lemmas.List.{take_all}
use Rattle.taking.proofs.Rows.{held_from}
use Rattle.taking.proofs.row.goes_on_after.Goals as goal

pub returns : goal.returns
returns g c =
    let rows = c.args.segments.now in
    let n = c.args.number in
    c.any_held.ensures ∙ ap (list_any is_some) (take_all (length rows - (n + 1)) (drop (n + 1) rows) (omega (arith, length-drop (n + 1) rows)))
    ∙ ap (λ k. list_any is_some (drop k rows)) (add-one n) ∙ held_from g.S.Segment.segments g.S.Segment.meant rows (length rows - suc n) (suc n) (omega arith)
