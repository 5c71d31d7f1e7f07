use Rattle.std.proofs.Common.{ℕ, List, [], ◌++◌, sym, ap, ◌∙◌, rules, append_assoc, append-nil}
use Rattle.std.proofs.Output.{has_written_append, has_written_of_eq}
use Rattle.std.proofs.lemmas.List.{nil_from_length}
use Rattle.script.specs.Digits.{hex_of}
use Rattle.script.proofs.Hex.{some_printed, written_so_far}
use Rattle.script.proofs.reply.HexDisplay.fmt.Goals as goal

pub loop-chunk-init : goal.loop-chunk-init
loop-chunk-init g c = (search rules, tt, search rules, λ plain. ([], search rules, search rules))

pub loop-chunk-preserved : goal.loop-chunk-preserved
loop-chunk-preserved g c =
    let steps = c.in-Some.ensures.steps in (
      search rules,
      tt,
      steps.0 ∙ c.loop-chunk.invariant.2,
      λ plain.
          let so_far = c.loop-chunk.invariant.3 plain in
          let chunk = c.in-Some.chunk.now in (
            so_far.0 ++ chunk,
            has_written_of_eq _ _ _ _ _ (written_so_far so_far.0 chunk) (has_written_append _ _ _ _ _ _ so_far.1 (search rules)),
            append_assoc so_far.0 chunk _ ∙ ap (λ (t : List ℕ). so_far.0 ++ t) (sym steps.1.0) ∙ so_far.2,
          ),
    )

pub returns-clause-writes : goal.returns-clause-writes
returns-clause-writes g c = λ plain _.
    let so_far = c.loop-chunk.invariant.3 plain in
    let none = nil_from_length _ c.in-None.ensures.steps.1.0 in
    let whole = rw (none, append-nil) at so_far.2 in
    has_written_of_eq _ _ _ _ _ (ap hex_of whole ∙ some_printed _ (search rules)) so_far.1
