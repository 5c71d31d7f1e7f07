use Rattle.agreement.proofs.Words.{in_words}
use Rattle.agreement.proofs.theorem.history_in_words.Goals as goal

pub returns : goal.returns
returns c = in_words
