use Rattle.std.proofs.Common.{sym, ap, ◌∙◌}
use Rattle.std.specs.Result.{result_ok}
use Rattle.script.specs.Bytes.{fault_of}
use Rattle.script.specs.Digits.{bytes_of}
use Rattle.script.proofs.Hex.{decoded, digits, unread, fault_read}
use Rattle.script.proofs.words.bytes.Goals as goal

pub returns-in_err-decode-in_default : goal.returns-in_err-decode-in_default
returns-in_err-decode-in_default c =
    let word = c.args.word.now in
    let e = c.in_err-decode-in_default.field-0.0 in
    fault_read (bytes_of word) c.from_residual.result (fault_of e) c.from_residual.ensures.1
    (unread word e (digits word c.in_default.not-empty c.in_default.not-text) c.in_err-decode-in_default.ensures.err)

pub returns-in_ok-decode-in_default : goal.returns-in_ok-decode-in_default
returns-in_ok-decode-in_default c =
    let word = c.args.word.now in
    digits word c.in_default.not-empty c.in_default.not-text ∙ sym (decoded word) ∙ ap result_ok c.in_ok-decode-in_default.ensures.ok
