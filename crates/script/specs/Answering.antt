-- What a line that asks for something is answered.
use Rattle.std.specs.Prelude.{◌≡◌, ℕ, ◌⊎◌, List, codes}
use Rattle.script.specs.declared.reply.Reply.{Reply}
use Rattle.script.specs.Lines.{reply_line}

-- `error`, and what is held has not changed, or the line of a reply that some command gets
abbrev pub Answers : {C S : Type 0} → (C → S) → (C → Reply → C → Type 0) → C → List ℕ → C → Type 0
Answers state replies before line after =
    ((line ≡ codes "error") × (state after ≡ state before)) ⊎ ((r : Reply) × (line ≡ reply_line r) × replies before r after)
