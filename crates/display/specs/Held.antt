-- What a class table holds, and what a part of a label does to it.
use Rattle.std.specs.Prelude.{◌≡◌, ℕ, Bool, false, cond, not, ◌&&◌, ◌||◌, List, [], Some, None, Option, ◌==◌, slice_index_or}
use Rattle.label.specs.declared.tag.ItemBits.{ItemBits}
use Rattle.label.specs.Classes.{item_class}
use Rattle.label.specs.Tags.{deletion}
use Rattle.agreement.specs.Rules.{Table}
use Rattle.display.specs.declared.table.ClassTable.{ClassTable}

-- what it holds for a class
abbrev pub held : ClassTable → ℕ → List ℕ
held t k = (slice_index_or t.rows k (record { items = [] })).items

-- the item toggle of the last complete label, none before any
abbrev pub toggle_of : Option ItemBits → Option Bool
toggle_of None = None
toggle_of (Some i) = Some i.toggle

-- its running bit, 0 before any
abbrev pub runs : Option ItemBits → Bool
runs None = false
runs (Some i) = i.running

abbrev pub table_of : ClassTable → Table
table_of t = record { row = held t; toggle = toggle_of t.last }

-- the row of each class is changed so, and nothing else
pub record ChangesRows (old new : ClassTable) (change : ℕ → List ℕ → List ℕ) : Type 0 where
  pub rows : (k : ℕ) → held new k ≡ change k (held old k)
  pub last : new.last ≡ old.last

-- what a deletion in a class empties: the class, or all of Item
abbrev pub empties : ℕ → ℕ → Bool
empties class k = cond (item_class class) (item_class k) (class == k)

-- a part is stored: it is no deletion, and of an Item class only while the item runs
abbrev pub is_stored : ℕ → List ℕ → Bool → Bool
is_stored class part running = not (deletion part) && (not (item_class class) || running)
