use Rattle.std.proofs.Common.{sym, ◌∙◌, arith, rules, false-eqb}
use Rattle.std.proofs.lemmas.List.Sums.{prefix_len-le-length}
use Rattle.programme.specs.Lines.{entry_of}
use Rattle.programme.specs.Rows.{is_space}
use Rattle.programme.proofs.line.entry_in.Goals as goal
use Rattle.programme.proofs.line.entry_in.Goals.{in_default-via-then-s-lt1, in_default-via-else-s-lt1+in_default+then-s-lt48, in_default-via-else-s-lt1+in_default+else-s-lt48+else-s-lt58}

pub returns-in_default : goal.returns-in_default
unfolding entry_of
returns-in_default c = elim c.in_default.branch [
  | in_default-via-then-s-lt1 w ↦
      absurd (grind (arith, false-eqb _ _ (sym c.if-is_blank.false ∙ c.is_blank.ensures), prefix_len-le-length is_space c.args.s.now))
  | in_default-via-else-s-lt1+in_default+then-s-lt48 w ↦ search rules
  | in_default-via-else-s-lt1+in_default+else-s-lt48+else-s-lt58 w ↦ search rules
]
