use Rattle.agreement.proofs.Shows.{agreement}
use Rattle.agreement.proofs.theorem.carriers_agree.Goals as goal

pub returns : goal.returns
returns g c = agreement g.C.Carrier.meaning g.D.Carrier.meaning g.met.C.Carrier.lawful g.met.D.Carrier.lawful
