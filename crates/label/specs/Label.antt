-- A label as it goes on the air: its text, its tags and its item bits.
use Rattle.std.specs.Prelude.{◌≡◌, ℕ, Bool, false, cond, List, [], ◌∷◌, Some, None, Option, ◌==◌}
use Rattle.label.specs.declared.tag.Tag.{Tag}
use Rattle.label.specs.declared.tag.ItemBits.{ItemBits}
use Rattle.label.specs.Classes.{silent, item_classes}
use Rattle.label.specs.Lists.{any}
use Rattle.label.specs.Tags.{part, deletion, has, sounding}

pub record Label : Type 0 where
  pub text : List ℕ
  pub tags : List Tag
  pub item : ItemBits

-- what is known of a label before it has its text: how long the text is, and the tags in the order in which they were added
pub record Outline : Type 0 where
  pub len : ℕ
  pub tags : List Tag

-- the label that goes on the air
abbrev pub label_of : Outline → ItemBits → List ℕ → Label
label_of o item text = record { text = text; tags = o.tags; item = item }

-- the part that a list of tags marks for a class
abbrev pub part_for : List ℕ → List Tag → ℕ → Option (List ℕ)
part_for text [] c = None
part_for text (t ∷ ts) c = cond (t.class == c) (Some (part text t)) (part_for text ts c)

-- the part that a label marks for a class; None where it does not name the class
unfoldable pub marked : Label → ℕ → Option (List ℕ)
marked l c = cond (silent c) None (part_for l.text l.tags c)

abbrev pub is_deletion : Option (List ℕ) → Bool
is_deletion None = false
is_deletion (Some p) = deletion p

-- the label deletes in one of the classes
unfoldable pub deletes_in : Label → List ℕ → Bool
deletes_in l cs = any (λ c. is_deletion (marked l c)) cs

-- an Item deletion is on the label
abbrev pub item_deletion : Label → Bool
item_deletion l = deletes_in l item_classes

-- labels compared, silent tags and order aside
pub record Same (x l : Label) : Type 0 where
  pub text : x.text ≡ l.text
  pub item : x.item ≡ l.item
  pub tags : (t : Tag) → has t (sounding x.tags) ≡ has t (sounding l.tags)
