-- Rules 1 to 3: what a display does on a complete label.
use Rattle.std.specs.Prelude.{ℕ, Bool, true, cond, not, ◌&&◌, ◌||◌, List, [], ◌∷◌, Some, None, Option}
use Rattle.std.specs.Bool.{beq}
use Rattle.label.specs.declared.tag.ItemBits.{ItemBits}
use Rattle.label.specs.Classes.{item_class}
use Rattle.label.specs.Label.{Label, marked, is_deletion, item_deletion}
use Rattle.label.specs.Tags.{deletion}

-- what a display holds: for each class a text, empty for nothing, and the item toggle of the last complete label
pub record Table : Type 0 where
  pub row : ℕ → List ℕ
  pub toggle : Option Bool

abbrev pub empty : Table
empty = record { row = λ c. []; toggle = None }

abbrev pub emptied : Bool → List ℕ → List ℕ
emptied b old = cond b [] old

-- running is 0, or the toggle is not that of the last complete label
abbrev pub breaks : Option Bool → ItemBits → Bool
breaks None i = true
breaks (Some t) i = not i.running || not (beq i.toggle t)

-- 1. then all Item classes are emptied
abbrev pub rule_1 : Option Bool → Label → ℕ → List ℕ → List ℕ
rule_1 last l c old = emptied (item_class c && breaks last l.item) old

-- 2. deletions empty their class; one in Item empties all Item classes
abbrev pub rule_2 : Label → ℕ → List ℕ → List ℕ
rule_2 l c old = emptied (is_deletion (marked l c) || item_class c && item_deletion l) old

abbrev pub stored : Option (List ℕ) → Bool → List ℕ → List ℕ
stored None may old = old
stored (Some p) may old = cond (not (deletion p) && may) p old

-- 3. the other parts are stored, Item parts only while running is 1
abbrev pub rule_3 : Label → ℕ → List ℕ → List ℕ
rule_3 l c old = stored (marked l c) (not (item_class c) || l.item.running) old

abbrev pub by_rules : Option Bool → Label → ℕ → List ℕ → List ℕ
by_rules last l c old = rule_3 l c (rule_2 l c (rule_1 last l c old))

abbrev pub on_label : Table → Label → Table
on_label d l = record { row = λ c. by_rules d.toggle l c (d.row c); toggle = Some l.item.toggle }

-- after the labels, one after another
unfoldable pub on_labels : Table → List Label → Table
on_labels d [] = d
on_labels d (l ∷ ls) = on_labels (on_label d l) ls
