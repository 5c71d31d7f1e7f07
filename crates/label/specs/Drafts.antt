-- Drafts and sealed labels: what they hold, and what opening, tagging and matching a text answer.
use Rattle.std.specs.Prelude.{◌≡◌, ℕ, Bool, cond, not, ◌&&◌, List, [], ◌∷◌, ◌++◌, length, Some, None, Ok, Err, Option, Result, ◌==◌, nat_le, nat_lt}
use Rattle.label.specs.declared.refusal.Refusal.{Refusal}
use Rattle.label.specs.declared.refusal.Refusal.TheVariants.{NoText, TextTooLong, ControlByte, SilentClass, PartLeavesText, SharedPosition, ClassAlreadyIn, LoneDescriptor, FourTagsIn}
use Rattle.label.specs.declared.sealed.Draft.{Draft}
use Rattle.label.specs.declared.sealed.Sealed.{Sealed}
use Rattle.label.specs.declared.tag.Tag.{Tag}
use Rattle.label.specs.Classes.{silent}
use Rattle.label.specs.Lists.{any}
use Rattle.label.specs.Label.{Outline}
use Rattle.label.specs.Tags.{lies_in, shares, of_class, is_descriptor, is_other}

abbrev pub draft_outline : Draft → Outline
draft_outline d = record { len = d.len; tags = d.tags.items }

abbrev pub sealed_outline : Sealed → Outline
sealed_outline s = draft_outline s.0

-- a byte that no text has
abbrev pub control : ℕ → Bool
control b = nat_lt b 0x20

-- why no draft is opened over a text
abbrev pub opening_refusal : List ℕ → Option Refusal
opening_refusal text =
    cond (length text == 0) (Some NoText)
    (cond (nat_lt 128 (length text)) (Some TextTooLong)
    (cond (any control text) (Some ControlByte) None))

-- a draft as it is opened
abbrev pub untagged : ℕ → Outline
untagged n = record { len = n; tags = [] }

-- what opening a draft gives
abbrev pub Opens : List ℕ → Result Draft Refusal → Type 0
Opens text (Ok d) = (opening_refusal text ≡ None) × (draft_outline d ≡ untagged (length text))
Opens text (Err e) = opening_refusal text ≡ Some e

-- why a tag does not come into a draft
abbrev pub tagging_refusal : Outline → Tag → Option Refusal
tagging_refusal o t =
    cond (silent t.class) (Some SilentClass)
    (cond (not (lies_in o.len t)) (Some PartLeavesText)
    (cond (any (shares t) o.tags) (Some SharedPosition)
    (cond (any (of_class t.class) o.tags) (Some ClassAlreadyIn)
    (cond (is_descriptor t && not (any is_other o.tags)) (Some LoneDescriptor)
    (cond (nat_le 4 (length o.tags)) (Some FourTagsIn) None)))))

-- the tag added behind the others
abbrev pub tagged : Outline → Tag → Outline
tagged o t = record { len = o.len; tags = o.tags ++ (t ∷ []) }

-- the answer of a call that gives x unless it is refused
abbrev pub done : {X : Type 0} → Option Refusal → X → Result X Refusal
done None x = Ok x
done (Some e) x = Err e

-- what is left behind a call: the new, or where it was refused the old
abbrev pub left : {X : Type 0} → Option Refusal → X → X → X
left None new old = new
left (Some e) new old = old

-- a label may be sent over a text: as long as its own, and without control bytes
abbrev pub matches : Outline → List ℕ → Bool
matches o text = length text == o.len && not (any control text)
