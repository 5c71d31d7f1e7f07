-- Replies that say what came of a call, and show its buffer whole.
use Rattle.std.specs.Prelude.{◌≡◌, ℕ, List, vec_items, Result}
use Rattle.label.specs.declared.refusal.Refusal.{Refusal}
use Rattle.script.specs.declared.reply.Reply.{Reply}
use Rattle.script.specs.declared.reply.Reply.TheVariants.{Written, Sent, Text}

abbrev pub Shows : Reply → Result (Unit {0}) Refusal → List ℕ → Type 0
Shows (Written x v) call bytes = (x ≡ call) × (vec_items v ≡ bytes)
Shows _ call bytes = ⊥

abbrev pub ShowsSent : Reply → Result ℕ Refusal → List ℕ → Type 0
ShowsSent (Sent x v) call bytes = (x ≡ call) × (vec_items v ≡ bytes)
ShowsSent _ call bytes = ⊥

abbrev pub ShowsText : Reply → Result ℕ Refusal → List ℕ → Type 0
ShowsText (Text x v) call bytes = (x ≡ call) × (vec_items v ≡ bytes)
ShowsText _ call bytes = ⊥
