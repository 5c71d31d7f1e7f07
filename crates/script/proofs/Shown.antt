-- The lines of replies that show a buffer.
use Rattle.std.proofs.Common.{◌≡◌, ℕ, List, Result, vec_items, ap, ◌∙◌}
use Rattle.label.specs.declared.refusal.Refusal.{Refusal}
use Rattle.script.specs.declared.reply.Reply.{Reply}
use Rattle.script.specs.declared.reply.Reply.TheVariants.{Call, Fits, Count, Written, Sent, Taken, Text, Front}
use Rattle.script.specs.Lines.{call_line, sent_line, text_line, with_buffer, reply_line}
use Rattle.script.specs.Shown.{Shows, ShowsSent, ShowsText}

same : (x y : List ℕ) (a b : List ℕ) → x ≡ y → a ≡ b → with_buffer x a ≡ with_buffer y b
same x y a b p q = ap (λ (z : List ℕ). with_buffer z a) p ∙ ap (λ (z : List ℕ). with_buffer y z) q

pub shown_line : (x : Reply) (call : Result (Unit {0}) Refusal) (bytes : List ℕ) → Shows x call bytes → reply_line x ≡ with_buffer (call_line call) bytes
shown_line (Written y v) call bytes s = same (call_line y) (call_line call) (vec_items v) bytes (ap call_line s.0) s.1
shown_line (Call y) call bytes s = absurd s
shown_line (Fits y) call bytes s = absurd s
shown_line (Count y) call bytes s = absurd s
shown_line (Sent y v) call bytes s = absurd s
shown_line (Taken y) call bytes s = absurd s
shown_line (Text y v) call bytes s = absurd s
shown_line (Front y) call bytes s = absurd s

pub shown_sent : (x : Reply) (call : Result ℕ Refusal) (bytes : List ℕ) → ShowsSent x call bytes → reply_line x ≡ with_buffer (sent_line call) bytes
shown_sent (Sent y v) call bytes s = same (sent_line y) (sent_line call) (vec_items v) bytes (ap sent_line s.0) s.1
shown_sent (Call y) call bytes s = absurd s
shown_sent (Fits y) call bytes s = absurd s
shown_sent (Count y) call bytes s = absurd s
shown_sent (Written y v) call bytes s = absurd s
shown_sent (Taken y) call bytes s = absurd s
shown_sent (Text y v) call bytes s = absurd s
shown_sent (Front y) call bytes s = absurd s

pub shown_text : (x : Reply) (call : Result ℕ Refusal) (bytes : List ℕ) → ShowsText x call bytes → reply_line x ≡ with_buffer (text_line call) bytes
shown_text (Text y v) call bytes s = same (text_line y) (text_line call) (vec_items v) bytes (ap text_line s.0) s.1
shown_text (Call y) call bytes s = absurd s
shown_text (Fits y) call bytes s = absurd s
shown_text (Count y) call bytes s = absurd s
shown_text (Written y v) call bytes s = absurd s
shown_text (Sent y v) call bytes s = absurd s
shown_text (Taken y) call bytes s = absurd s
shown_text (Front y) call bytes s = absurd s
