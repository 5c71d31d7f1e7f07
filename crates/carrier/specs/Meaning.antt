-- What a carrier means, as a value.
use Rattle.std.specs.Prelude.{◌≡◌, ℕ, Bool, true, false, List, [], length, Some, None, Ok, Err, Option, Result}
use Rattle.label.specs.Lawful.{sealable}
use Rattle.label.specs.declared.refusal.Refusal.{Refusal}
use Rattle.label.specs.declared.tag.ItemBits.{ItemBits}
use Rattle.label.specs.declared.tag.Tag.{Tag}
use Rattle.label.specs.Label.{Label}
use Rattle.carrier.specs.declared.answer.Answer.{Answer}
use Rattle.carrier.specs.Writing.{Writing}

-- what one frame does: an answer and the next state, or a refusal, which leaves the state
pub data Outcome (S : Type 0) : Type 0 where
  answered : Answer → S → Outcome S
  refused : Refusal → Outcome S

pub record Meaning (S : Type 0) : Type 0 where
  pub writing : Writing
  -- a new taking state
  pub fresh : S
  pub step : S → List ℕ → Outcome S
  -- the standing message toggle, unknown when new
  pub standing : S → Option Bool
  -- the complete label
  pub told : S → Option Label

-- what the call returns
abbrev pub reply : {S : Type 0} → Outcome S → Result Answer Refusal
reply (answered a t) = Ok a
reply (refused e) = Err e

-- the state after one frame
abbrev pub next : {S : Type 0} → S → Outcome S → S
next s (answered a t) = t
next s (refused e) = s

-- the complete label's text, tags and item bits, or none
abbrev pub told_text : Option Label → List ℕ
told_text None = []
told_text (Some l) = l.text

abbrev pub told_tags : Option Label → List Tag
told_tags None = []
told_tags (Some l) = l.tags

abbrev pub told_item : Option Label → ItemBits
told_item None = record { toggle = false; running = false }
told_item (Some l) = l.item

-- tags as a carrier tells them: at most four, none silent, lawful for the text
abbrev pub Plain : List ℕ → List Tag → Type 0
Plain text tags = sealable (length text) tags ≡ true
