use Rattle.agreement.proofs.Shows.{told_by_history}
use Rattle.agreement.proofs.theorem.told_by_history.Goals as goal

pub returns : goal.returns
returns g c = told_by_history g.C.Carrier.meaning g.met.C.Carrier.lawful
