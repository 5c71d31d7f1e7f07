-- How replies are put into words.
use Rattle.std.specs.Prelude.{ℕ, cond, List, ◌∷◌, ◌++◌, Some, None, Ok, Err, vec_items, codes, decimal, Option, Result}
use Rattle.label.specs.declared.refusal.Refusal.{Refusal}
use Rattle.label.specs.Refusals.{case_of}
use Rattle.carrier.specs.declared.answer.Answer.{Answer}
use Rattle.carrier.specs.Answers.{answer_case}
use Rattle.script.specs.Digits.{printed}
use Rattle.script.specs.declared.reply.Reply.{Reply}
use Rattle.script.specs.declared.reply.Reply.TheVariants.{Call, Fits, Count, Written, Sent, Taken, Text, Front}

abbrev pub refused_line : Refusal → List ℕ
refused_line e = codes "refused " ++ decimal (case_of e).number

abbrev pub call_line : Result (Unit {0}) Refusal → List ℕ
call_line (Ok x) = codes "ok"
call_line (Err e) = refused_line e

-- a count stands behind a word, parted from it by a space
abbrev pub counted_line : List ℕ → Result ℕ Refusal → List ℕ
counted_line word (Ok n) = word ++ (32 ∷ decimal n)
counted_line word (Err e) = refused_line e

abbrev pub sent_line : Result ℕ Refusal → List ℕ
sent_line call = counted_line (codes "sent") call

abbrev pub text_line : Result ℕ Refusal → List ℕ
text_line call = counted_line (codes "text") call

abbrev pub taken_line : Result Answer Refusal → List ℕ
taken_line (Ok a) = codes "answer " ++ decimal (answer_case a).number
taken_line (Err e) = refused_line e

abbrev pub record_line : Option ℕ → List ℕ
record_line (Some tenths) = codes "reading " ++ decimal tenths
record_line None = codes "dashes"

-- a buffer stands behind the words, parted from them by a space
abbrev pub with_buffer : List ℕ → List ℕ → List ℕ
with_buffer words space = words ++ (32 ∷ printed space)

abbrev pub reply_line : Reply → List ℕ
reply_line (Call x) = call_line x
reply_line (Fits b) = cond b (codes "yes") (codes "no")
reply_line (Count n) = decimal n
reply_line (Written x space) = with_buffer (call_line x) (vec_items space)
reply_line (Sent x space) = with_buffer (sent_line x) (vec_items space)
reply_line (Taken x) = taken_line x
reply_line (Text x space) = with_buffer (text_line x) (vec_items space)
reply_line (Front x) = record_line x
