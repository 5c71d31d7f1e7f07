-- What the console answers to a command about a label, and what it holds after it.
use Rattle.std.specs.Prelude.{◌≡◌, ℕ, cond, List, ◌++◌, length, drop, Ok, Err, vec_items, Option, Result, MatchResult}
use Rattle.label.specs.declared.tag.Tag.{Tag}
use Rattle.label.specs.Drafts.{opening_refusal, untagged, tagging_refusal, tagged, done, left}
use Rattle.label.specs.Label.{Outline, label_of}
use Rattle.label.specs.declared.refusal.Refusal.{Refusal}
use Rattle.carrier.specs.Writing.{place, write_refusal}
use Rattle.script.specs.declared.fault.Fault.{Fault}
use Rattle.script.specs.declared.fault.Fault.TheVariants.{Wrong, Memory}
use Rattle.script.specs.declared.reply.Reply.{Reply}
use Rattle.script.specs.declared.reply.Reply.TheVariants.{Call, Fits, Count}
use Rattle.script.specs.Shown.{Shows}
use Rattle.bench.specs.Carriers.{writing_of, no_item}
use Rattle.bench.specs.Held.{Held, nothing, drafted, closed, OfSealed, fresh}
use Rattle.bench.specs.declared.carriers.Named.{Named}
use Rattle.bench.specs.declared.command.Command.{Command}
use Rattle.bench.specs.declared.command.Command.TheVariants.{Open, Tag as AddTag, Seal, Reopen, Fits as AskFits, Count as AskCount, Write}
use Rattle.bench.specs.declared.command.Writing.{Writing}

-- open: a draft over the text, or the label as it was
abbrev pub opened : Held → List ℕ → Held
opened h text = left (opening_refusal text) (drafted (untagged (length text)) text) h

-- tag: of a draft alone
abbrev pub tag_reply : Held → Tag → Result Reply Fault
tag_reply nothing t = Err Wrong
tag_reply (drafted o text) t = Ok (Call (done (tagging_refusal o t) tt))
tag_reply (closed o text) t = Err Wrong

abbrev pub after_tag : Held → Tag → Held
after_tag nothing t = nothing
after_tag (drafted o text) t = drafted (left (tagging_refusal o t) (tagged o t) o) text
after_tag (closed o text) t = closed o text

-- seal: of a draft alone
abbrev pub seal_reply : Held → Result Reply Fault
seal_reply nothing = Err Wrong
seal_reply (drafted o text) = Ok (Call (Ok tt))
seal_reply (closed o text) = Err Wrong

abbrev pub after_seal : Held → Held
after_seal nothing = nothing
after_seal (drafted o text) = closed o text
after_seal (closed o text) = closed o text

-- reopen: of a sealed label alone
abbrev pub reopen_reply : Held → Result Reply Fault
reopen_reply nothing = Err Wrong
reopen_reply (drafted o text) = Err Wrong
reopen_reply (closed o text) = Ok (Call (Ok tt))

abbrev pub after_reopen : Held → Held
after_reopen nothing = nothing
after_reopen (drafted o text) = drafted o text
after_reopen (closed o text) = drafted o text

-- fits and count: of a sealed label alone, and count only of one that fits
abbrev pub fits_reply : Held → Named → Result Reply Fault
fits_reply nothing c = Err Wrong
fits_reply (drafted o text) c = Err Wrong
fits_reply (closed o text) c = Ok (Fits ((writing_of c).fits o))

abbrev pub count_reply : Held → Named → Result Reply Fault
count_reply nothing c = Err Wrong
count_reply (drafted o text) c = Err Wrong
count_reply (closed o text) c = cond ((writing_of c).fits o) (Ok (Count ((writing_of c).count o))) (Err Wrong)

-- why a frame is not written into a fresh buffer
abbrev pub why_not_written : Writing → Outline → List ℕ → Option Refusal
why_not_written w o text = write_refusal (writing_of w.carrier) o text w.frame.number (length (fresh w.size))

-- the buffer after writing a frame
abbrev pub buffer_after : Writing → Outline → List ℕ → List ℕ
buffer_after w o text =
    left (why_not_written w o text)
    (place ((writing_of w.carrier).frame (label_of o no_item text) w.frame.toggle w.frame.service w.frame.number) ++ drop 21 (fresh w.size))
    (fresh w.size)

-- the reply of a frame that is written over a text shows the buffer whole; only memory can fail
abbrev pub Writes : Writing → Outline → List ℕ → Result Reply Fault → Type 0
Writes w o text r = MatchResult r (λ x. Shows x (done (why_not_written w o text) tt) (buffer_after w o text)) (λ e. e ≡ Memory)

-- write: of a sealed label alone
abbrev pub WriteReply : Held → Writing → Result Reply Fault → Type 0
WriteReply h w r = OfSealed h w.text (λ o text. Writes w o text r) (r ≡ Err Wrong)

-- what a command answers, and what the bench holds after it
abbrev pub Obeys : Held → Command → Result Reply Fault → Held → Type 0
Obeys h (Open text) r after = (r ≡ Ok (Call (done (opening_refusal (vec_items text)) tt))) × (after ≡ opened h (vec_items text))
Obeys h (AddTag t) r after = (r ≡ tag_reply h t) × (after ≡ after_tag h t)
Obeys h Seal r after = (r ≡ seal_reply h) × (after ≡ after_seal h)
Obeys h Reopen r after = (r ≡ reopen_reply h) × (after ≡ after_reopen h)
Obeys h (AskFits c) r after = (r ≡ fits_reply h c) × (after ≡ h)
Obeys h (AskCount c) r after = (r ≡ count_reply h c) × (after ≡ h)
Obeys h (Write w) r after = WriteReply h w r × (after ≡ h)

-- a reply that some command gets
abbrev pub Replies : Held → Reply → Held → Type 0
Replies h x after = (c : Command) × Obeys h c (Ok x) after
