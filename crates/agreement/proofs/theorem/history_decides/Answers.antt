use Rattle.agreement.proofs.Decides.{decides}
use Rattle.agreement.proofs.theorem.history_decides.Goals as goal

pub returns : goal.returns
returns c = decides
