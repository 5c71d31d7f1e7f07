use Rattle.std.proofs.Common.{◌≡◌, ◌≤◌, ◌*◌, ◌+◌, ◌-◌, ◌++◌, length, length-append, get_or, None, Some, ap, ◌∙◌, subst, sym, arith}
use Rattle.std.proofs.lemmas.List.{get_or_default}
use Rattle.taking.proofs.Rows.{taken_more, read_more}
use Rattle.taking.specs.Rows.{held_in}
use Rattle.taking.specs.Segments.{joined, read_from}
use Rattle.taking.proofs.row.joined.Goals as goal

pub loop-segment-preserved : goal.loop-segment-preserved
loop-segment-preserved g c =
    let xs = c.loop-segment.text.items in
    let ys = c.add_to.new.text.items in
    let rows = c.args.segments.now in
    let i = c.loop-segment.segment-index in
    let s = c.in_ok-segment.segment.now in
    let e : get_or rows i None ≡ Some s = get_or_default rows i None c.segment-item.result (omega arith) ∙ sym c.segment-item.is ∙ sym c.in_ok-segment.ensures.value in
    let part = g.S.Segment.segments.bytes (g.S.Segment.meant s) in
    let z : ys ≡ xs ++ part = c.add_to.ensures.text in
    let l : length ys ≡ length xs + length part = ap length z ∙ length-append xs part in
    record {
      fits = subst (λ k. g.row.N * k ≤ 128 * (i + 1)) (sym l) (taken_more g.row.N i (length xs) (length part) c.loop-segment.invariant.fits c.add_to.ensures.fits);
      read = read_more g.S.Segment.segments g.S.Segment.meant rows g.row.N xs i s c.loop-segment.invariant.read (omega arith) e (sym c.add_to.ensures.ends ∙ c.if-add_to.false)
          ∙ ap (λ zs. joined zs (read_from g.S.Segment.segments (held_in g.S.Segment.meant rows) (g.row.N - (i + 1)) (i + 1))) (sym z);
    }
