use Rattle.std.proofs.Common.{◌≡◌, ℕ, ◌<◌, ◌∙◌, fold, get_or, rules}
use Rattle.std.proofs.iter.runs.Made.{chains}
use Rattle.crc.specs.Register.{byte_in}
use Rattle.crc.proofs.Division.{taken_in}
use Rattle.crc.proofs.divide.Goals as goal

pub returns : goal.returns
returns c =
    let e : c.fold.result ≡ fold byte_in 65535 c.args.bytes.now = search (rules, chains) in
    let b : (k : ℕ) → get_or c.args.bytes.now k 0 < 256 = λ k. search rules in
    e ∙ taken_in c.args.bytes.now b
