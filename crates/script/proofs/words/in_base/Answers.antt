use Rattle.std.proofs.Common.{◌∙◌}
use Rattle.script.proofs.Numbers.{reads}
use Rattle.script.proofs.words.in_base.Goals as goal

pub returns : goal.returns
unfolding lib.Utf8.encode
returns c = c.ok.ensures.value ∙ reads c.args.base c.args.digits.now c.from_str_radix.result c.requires.known c.if-starts_with.ensures.cases c.from_str_radix.ensures.value
