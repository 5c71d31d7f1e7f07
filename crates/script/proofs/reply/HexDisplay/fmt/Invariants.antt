use Rattle.std.proofs.Common.{◌≡◌, List, ℕ, ◌++◌}
use Rattle.std.specs.Fmt.{HasWritten, IsPlainFormatter}
use Rattle.std.specs.Slice.Iter.{chunks_rest, chunks_size}
use Rattle.script.specs.Digits.{hex_of}
use Rattle.script.proofs.reply.HexDisplay.fmt.Given as goal

abbrev pub invariant-loop-chunk : goal.invariant-loop-chunk
invariant-loop-chunk g l =
    (goal.iterator-loop-chunk g).can_next l.chunk-iterator
    × (goal.iterator-loop-chunk g).is_finite l.chunk-iterator
    × (chunks_size l.chunk-iterator ≡ 32)
    × (IsPlainFormatter l.initial.f → (front : List ℕ) × HasWritten g.W.Write.write_str_gives l.initial.f (hex_of front) l.f
    × (front ++ chunks_rest l.chunk-iterator ≡ l.self.0.now))
