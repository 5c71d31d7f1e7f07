use Rattle.front.proofs.Digits.{reads, writes}
use Rattle.front.proofs.theorem.reads_as_written.Goals as goal

pub returns : goal.returns
returns c = λ n text. (reads n text, writes n text)
