use Rattle.agreement.proofs.Hearings.{can_be_heard}
use Rattle.agreement.proofs.theorem.can_be_heard.Goals as goal

pub returns : goal.returns
returns g c = can_be_heard g.C.Carrier.meaning g.met.C.Carrier.lawful
