-- What drafts answer over the ten bytes of the sill's text.
use Rattle.std.specs.Prelude.{◌≡◌, ℕ, false, cond, [], ◌∷◌, length, Some, None, Ok, Err, Option, Result, nat_le}
use Rattle.label.specs.declared.refusal.Refusal.{Refusal}
use Rattle.label.specs.declared.refusal.Refusal.TheVariants.{PartLeavesText, SharedPosition}
use Rattle.label.specs.declared.sealed.Sealed.{Sealed}
use Rattle.label.specs.declared.tag.Tag.{Tag}
use Rattle.label.specs.Classes.{silent, descriptor}
use Rattle.label.specs.Drafts.{sealed_outline, opening_refusal, tagging_refusal, tagged}
use Rattle.label.specs.Label.{Outline}
use Rattle.edge.specs.Labels.{tag, opened, answers, Refused, sill}

-- a label is sealed with this outline, and no refusal is given
abbrev pub SealedAs : Outline → Result Sealed Refusal → Type 0
SealedAs o (Ok s) = sealed_outline s ≡ o
SealedAs o (Err e) = ⊥

-- three bytes from a start on: the last start is 7
abbrev pub three_bytes : ℕ → Option Refusal
three_bytes start = cond (nat_le start 7) None (Some PartLeavesText)

-- a part of three bytes may begin at 7 and not at 8, whatever its class, if it sounds and may stand alone
pub record LastBytes : Type 0 where
  pub long : length sill ≡ 10
  pub opens : opening_refusal sill ≡ None
  pub inside : (class : ℕ) → silent class ≡ false → descriptor class ≡ false → tagging_refusal (opened sill) (tag class 7 2) ≡ None
  pub behind : (class : ℕ) → silent class ≡ false → Refused (tagging_refusal (opened sill) (tag class 8 2)) PartLeavesText 5
  pub all : (start : ℕ) → tagging_refusal (opened sill) (tag 56 start 2) ≡ three_bytes start

abbrev pub or_else : Option Refusal → Option Refusal → Option Refusal
or_else None next = next
or_else (Some e) next = Some e

-- what a draft answers to two tags: the first refusal, if any
unfoldable pub two_tags : Tag → Tag → Option Refusal
two_tags t u = or_else (tagging_refusal (opened sill) t) (tagging_refusal (tagged (opened sill) t) u)

-- a part from 0 on, by its length marker, and then the four bytes from 4 on
abbrev pub beside : ℕ → Option Refusal
beside extent = cond (nat_le extent 3) None (cond (nat_le extent 9) (Some SharedPosition) (Some PartLeavesText))

-- two parts may touch, and share no byte
pub record Neighbours : Type 0 where
  pub touch : answers (opened sill) (tag 1 0 3 ∷ tag 4 4 3 ∷ []) ≡ None ∷ None ∷ []
  pub share : answers (opened sill) (tag 1 0 4 ∷ tag 4 4 3 ∷ []) ≡ None ∷ Some SharedPosition ∷ []
  pub refused : Refused (two_tags (tag 1 0 4) (tag 4 4 3)) SharedPosition 6
  pub all : (extent : ℕ) → two_tags (tag 1 0 extent) (tag 4 4 3) ≡ beside extent
