-- The label on the bench, and the buffers that calls are handed.
use Rattle.std.specs.Prelude.{ℕ, List, Some, None, replicate, vec_items, Option}
use Rattle.std.specs.Global.{Vec}
use Rattle.label.specs.Drafts.{draft_outline, sealed_outline}
use Rattle.label.specs.Label.{Outline}
use Rattle.bench.specs.declared.current.Current.{Current}
use Rattle.bench.specs.declared.current.Current.TheVariants.{Nothing, Drafted, Closed}

-- the label on the bench: none, a draft or a sealed label, with its text
pub data Held : Type 0 where
  nothing : Held
  drafted : Outline → List ℕ → Held
  closed : Outline → List ℕ → Held

abbrev pub held : Current → Held
held Nothing = nothing
held (Drafted d t) = drafted (draft_outline d) (vec_items t)
held (Closed s t) = closed (sealed_outline s) (vec_items t)

-- the text over which a label is written or sent: its own, unless another is given
abbrev pub text_over : Option (Vec ℕ) → List ℕ → List ℕ
text_over other own = elim other [ None ↦ own | Some text ↦ vec_items text ]

-- what is so of a sealed label and the text over which it goes, and what is so where no label is sealed
abbrev pub OfSealed : Held → Option (Vec ℕ) → (Outline → List ℕ → Type 0) → Type 0 → Type 0
OfSealed nothing other P Q = Q
OfSealed (drafted o own) other P Q = Q
OfSealed (closed o own) other P Q = P o (text_over other own)

-- a buffer as a call is handed it: 0xEE throughout
abbrev pub fresh : ℕ → List ℕ
fresh n = replicate n 0xEE
