-- A post: a station and a display on one carrier, and what its orders answer and leave behind.
use Rattle.std.specs.Prelude.{◌≡◌, ℕ, ◌*◌, false, not, List, ◌++◌, length, drop, Ok, Err, vec_items, Option, Result, MatchResult}
use Rattle.label.specs.Drafts.{done, left}
use Rattle.label.specs.Label.{Outline, label_of}
use Rattle.label.specs.declared.refusal.Refusal.{Refusal}
use Rattle.carrier.specs.Meaning.{Meaning, reply}
use Rattle.agreement.specs.Calls.{start, end, made}
use Rattle.agreement.specs.Reading.{read_refusal}
use Rattle.agreement.specs.Shown.{Shown, new_display, display_step}
use Rattle.agreement.specs.Station.{Vars, new_vars, call_refusal, call_step, send_refusal}
use Rattle.station.specs.Sending.{places}
use Rattle.station.specs.Vars.{vars}
use Rattle.display.specs.View.{view}
use Rattle.script.specs.Shown.{ShowsSent, ShowsText}
use Rattle.script.specs.declared.fault.Fault.{Fault}
use Rattle.script.specs.declared.fault.Fault.TheVariants.{Wrong, Memory}
use Rattle.script.specs.declared.reply.Reply.{Reply}
use Rattle.script.specs.declared.reply.Reply.TheVariants.{Call, Taken, Front as Shows}
use Rattle.front.specs.Reading.{reading_of}
use Rattle.bench.specs.Held.{Held, OfSealed, fresh}
use Rattle.bench_posts.specs.declared.command.Order.{Order}
use Rattle.bench_posts.specs.declared.command.Order.TheVariants.{Station, Start, End, Send, Take, Read, Retune, Front}
use Rattle.bench_posts.specs.declared.command.Sending.{Sending}
use Rattle.bench_posts.specs.declared.post.Post.{Post}

pub record PostState (S : Type 0) : Type 0 where
  pub vars : Vars
  pub service : ℕ
  pub shown : Shown S

abbrev pub post_of : {C S : Type 0} → (C → S) → Post C → PostState S
post_of state p = record { vars = vars p.station; service = p.station.service; shown = view state p.display }

abbrev pub new_post : {S : Type 0} → Meaning S → PostState S
new_post m = record { vars = new_vars; service = 0; shown = new_display m }

abbrev pub with_vars : {S : Type 0} → PostState S → Vars → PostState S
with_vars p s = record { vars = s; service = p.service; shown = p.shown }

abbrev pub with_shown : {S : Type 0} → PostState S → Shown S → PostState S
with_shown p d = record { vars = p.vars; service = p.service; shown = d }

-- a label sent into a fresh buffer: why not, the buffer after it, and the station's variables
abbrev pub why_not_sent : {S : Type 0} → Meaning S → Outline → List ℕ → ℕ → Option Refusal
why_not_sent m o text size = send_refusal m.writing o text (length (fresh size))

abbrev pub buffer_sent : {S : Type 0} → Meaning S → PostState S → Outline → List ℕ → ℕ → List ℕ
buffer_sent m p o text size =
    left (why_not_sent m o text size)
    (places (m.writing.frame (label_of o p.vars.item text) p.vars.toggle p.service) (m.writing.count o) ++ drop (21 * m.writing.count o) (fresh size))
    (fresh size)

abbrev pub vars_sent : {S : Type 0} → Meaning S → PostState S → Outline → List ℕ → ℕ → Vars
vars_sent m p o text size = left (why_not_sent m o text size) (record { toggle = not p.vars.toggle; item = p.vars.item; since = false }) p.vars

-- the reply says what came of the call, and shows the buffer whole; only memory can fail, and then nothing changes
abbrev pub Sends : {S : Type 0} → Meaning S → Outline → List ℕ → ℕ → PostState S → Result Reply Fault → PostState S → Type 0
Sends m o text size p r q =
    MatchResult r
    (λ x. ShowsSent x (done (why_not_sent m o text size) (m.writing.count o)) (buffer_sent m p o text size) × (q ≡ with_vars p (vars_sent m p o text size)))
    (λ e. (e ≡ Memory) × (q ≡ p))

-- send: of a sealed label alone
abbrev pub SendReply : {S : Type 0} → Meaning S → Held → Sending → PostState S → Result Reply Fault → PostState S → Type 0
SendReply m h s p r q = OfSealed h s.text (λ o text. Sends m o text s.size p r q) ((r ≡ Err Wrong) × (q ≡ p))

-- a class read into a fresh buffer
abbrev pub why_not_read : {S : Type 0} → PostState S → ℕ → ℕ → Option Refusal
why_not_read p c size = read_refusal p.shown.table c (length (fresh size))

abbrev pub buffer_read : {S : Type 0} → PostState S → ℕ → ℕ → List ℕ
buffer_read p c size = left (why_not_read p c size) (p.shown.table.row c ++ drop (length (p.shown.table.row c)) (fresh size)) (fresh size)

abbrev pub Reads : {S : Type 0} → PostState S → ℕ → ℕ → Result Reply Fault → Type 0
Reads p c size r = MatchResult r (λ x. ShowsText x (done (why_not_read p c size) (length (p.shown.table.row c))) (buffer_read p c size)) (λ e. e ≡ Memory)

-- what an order answers, with the label that is on the bench, and what the post is after it
abbrev pub PostObeys : {S : Type 0} → Meaning S → Held → Order → PostState S → Result Reply Fault → PostState S → Type 0
PostObeys m h (Station v) p r q = (r ≡ Ok (Call (Ok tt))) × (q ≡ record { vars = new_vars; service = v; shown = p.shown })
PostObeys m h Start p r q = (r ≡ Ok (Call (done (call_refusal m p.vars start 0) tt))) × (q ≡ with_vars p (call_step m p.vars (made start 0)))
PostObeys m h End p r q = (r ≡ Ok (Call (done (call_refusal m p.vars end 0) tt))) × (q ≡ with_vars p (call_step m p.vars (made end 0)))
PostObeys m h (Send s) p r q = SendReply m h s p r q
PostObeys m h (Take f) p r q = (r ≡ Ok (Taken (reply (m.step p.shown.carrier (vec_items f))))) × (q ≡ with_shown p (display_step m p.shown (vec_items f)))
PostObeys m h (Read c size) p r q = Reads p c size r × (q ≡ p)
PostObeys m h Retune p r q = (r ≡ Ok (Call (Ok tt))) × (q ≡ with_shown p (new_display m))
PostObeys m h Front p r q = (r ≡ Ok (Shows (reading_of (p.shown.table.row 56)))) × (q ≡ p)
