-- What a display holds, told from the labels that were sent and from nothing else.
use Rattle.std.specs.Prelude.{◌≡◌, ℕ, ◌≤◌, Bool, true, false, ◌⊎◌, List, [], ◌∷◌, ◌++◌, length, Some, None}
use Rattle.label.specs.Classes.{item_class}
use Rattle.label.specs.Label.{Label, marked, item_deletion}
use Rattle.label.specs.Tags.{deletion}

-- no label of the list names the class
abbrev pub Unnamed : ℕ → List Label → Type 0
Unnamed c [] = Unit {0}
Unnamed c (l ∷ ls) = (marked l c ≡ None) × Unnamed c ls

-- held is the part of the last label that names the class, and nothing if that is a deletion or none names it
pub record HoldsLast (c : ℕ) (ls : List Label) (held : List ℕ) : Type 0 where
  pub part : (front back : List Label) (l : Label) (p : List ℕ) → ls ≡ front ++ (l ∷ back) → Unnamed c back → marked l c ≡ Some p → deletion p ≡ false → held ≡ p
  pub deleted : (front back : List Label) (l : Label) (p : List ℕ) → ls ≡ front ++ (l ∷ back) → Unnamed c back → marked l c ≡ Some p → deletion p ≡ true → held ≡ []
  pub none : Unnamed c ls → held ≡ []

-- all labels of the row have running 1 and the toggle t
abbrev pub RunsWith : Bool → List Label → Type 0
RunsWith t [] = Unit {0}
RunsWith t (l ∷ ls) = (l.item.running ≡ true) × (l.item.toggle ≡ t) × RunsWith t ls

-- all have running 1 and one toggle
abbrev pub OneItem : List Label → Type 0
OneItem ls = (t : Bool) × RunsWith t ls

-- the running item's labels: the longest row at the end of the labels in which all have running 1 and one toggle
pub record RunningItem (ls row : List Label) : Type 0 where
  pub before : List Label
  pub end : ls ≡ before ++ row
  pub one : OneItem row
  pub longest : (front other : List Label) → ls ≡ front ++ other → OneItem other → length other ≤ length row

abbrev pub NoItemDeletion : List Label → Type 0
NoItemDeletion [] = Unit {0}
NoItemDeletion (l ∷ ls) = (item_deletion l ≡ false) × NoItemDeletion ls

-- the labels that count: from the latest with an Item deletion on, that one included; all, if none has one
abbrev pub FromDeletion : List Label → List Label → Type 0
FromDeletion before [] = before ≡ []
FromDeletion before (l ∷ ls) = ((item_deletion l ≡ true) ⊎ (before ≡ [])) × NoItemDeletion ls

pub record Counted (row counted : List Label) : Type 0 where
  pub before : List Label
  pub end : row ≡ before ++ counted
  pub since : FromDeletion before counted

-- an Item class, by the running item's labels that count
pub record HoldsOfItem (c : ℕ) (ls : List Label) (held : List ℕ) : Type 0 where
  pub row : List Label
  pub counted : List Label
  pub running : RunningItem ls row
  pub counts : Counted row counted
  pub last : HoldsLast c counted held

-- what a class holds after the labels
pub record Holds (c : ℕ) (ls : List Label) (held : List ℕ) : Type 0 where
  pub outside : item_class c ≡ false → HoldsLast c ls held
  pub inside : item_class c ≡ true → HoldsOfItem c ls held

-- some label of the list marks exactly this part for the class
pub record Marks (c : ℕ) (ls : List Label) (p : List ℕ) : Type 0 where
  pub front : List Label
  pub label : Label
  pub back : List Label
  pub among : ls ≡ front ++ (label ∷ back)
  pub part : marked label c ≡ Some p

-- nothing torn: nothing is held, or the whole of a part that some label marks for the class
abbrev pub Whole : ℕ → List Label → List ℕ → Type 0
Whole c ls held = (held ≡ []) ⊎ Marks c ls held

-- the history decides what is held
abbrev pub Decides : Type 0
Decides = (c : ℕ) (ls : List Label) (x y : List ℕ) → Holds c ls x → Holds c ls y → x ≡ y
