use Rattle.std.proofs.Common.{◌∙◌, arith}
use Rattle.std.proofs.Output.{has_written_of_eq}
use Rattle.script.proofs.Hex.{encoded, is_text}
use Rattle.script.proofs.reply.write_digits.Goals as goal

pub unreachable-requires-in_default-from_utf8 : goal.unreachable-requires-in_default-from_utf8
unreachable-requires-in_default-from_utf8 g c =
    c.in_default-from_utf8.ensures.cases.0 (rw c.in-Ok.ensures.written (is_text c.args.bytes.now))

pub returns : goal.returns
returns g c = λ plain ok.
    let shown = encoded c.args.bytes.now (λ i. let fits = c.type_inv.bytes i in omega arith) in
    has_written_of_eq _ _ _ _ _ (c.in-Ok-from_utf8.ensures.cases.0 ∙ c.in-Ok.ensures.written ∙ shown) (c.write_str.ensures.writes plain ok)
