use Rattle.std.proofs.Common.{◌≡◌, ◌*◌, ◌%◌, ap, ◌∙◌, add-one, arith}
use lib.Bits.{bit_xor}
use Rattle.crc.specs.Register.{stepped, steps}
use Rattle.crc.proofs.take_byte.Goals as goal

pub loop-preserved : goal.loop-preserved
loop-preserved c = rw add-one (c.step-front.ensures ∙ ap stepped c.loop.invariant)

pub returns : goal.returns
returns c =
    let k : c.loop.counter ≡ 8 = omega arith in
    let e : c.from.result * 256 % 65536 ≡ c.args.byte * 256 = omega arith in
    c.loop.invariant
    ∙ ap (λ n. steps n (bit_xor c.args.register (c.from.result * 256 % 65536))) k
    ∙ ap (λ n. steps 8 (bit_xor c.args.register n)) e
