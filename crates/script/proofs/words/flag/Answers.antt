use Rattle.script.specs.Digits.{number_to}
use Rattle.script.proofs.Numbers.{flag_err}
use Rattle.script.proofs.words.flag.Goals as goal

pub returns-in_err-number_to : goal.returns-in_err-number_to
returns-in_err-number_to c =
    flag_err (number_to 1 c.args.word.now) c.from_residual.result c.in_err-number_to.field-0.0 c.in_err-number_to.ensures c.from_residual.ensures.1
