use Rattle.std.proofs.Common.{◌≡◌, true, codes, arith, rules}
use Rattle.std.specs.Str.{bytes_eq}
use Rattle.std.proofs.lemmas.Grind.{common_steps}
use Rattle.programme.proofs.line.spoken.Goals as goal

pub returns-in-song : goal.returns-in-song
returns-in-song c =
    let word : bytes_eq c.split_while.result.0.now (codes "song") ≡ true = grind (arith, common_steps) in
    search rules
