use Rattle.agreement.proofs.Noise.{through_noise}
use Rattle.agreement.proofs.theorem.hears_through_noise.Goals as goal

pub returns : goal.returns
returns g c = through_noise g.C.Carrier.meaning g.met.C.Carrier.lawful
