-- Content classes: their categories, and which are silent.
use Rattle.std.specs.Prelude.{ℕ, Bool, cond, ◌&&◌, ◌||◌, List, [], ◌∷◌, Some, None, Option, ◌==◌, nat_le, nat_lt}
use Rattle.label.specs.declared.category.Category.{Category}
use Rattle.label.specs.declared.category.Category.TheVariants.{Dummy, Item, Info, Programme, Interactivity, Private, Descriptor}

abbrev pub between : ℕ → ℕ → ℕ → Bool
between low high c = nat_le low c && nat_le c high

abbrev pub category_of : ℕ → Option Category
category_of c =
    cond (c == 0) (Some Dummy)
    (cond (between 1 11 c) (Some Item)
    (cond (between 12 30 c) (Some Info)
    (cond (between 31 40 c) (Some Programme)
    (cond (between 41 53 c) (Some Interactivity)
    (cond (between 56 58 c) (Some Private)
    (cond (between 59 63 c) (Some Descriptor) None))))))

-- a tag of a silent class marks nothing
abbrev pub silent : ℕ → Bool
silent c = c == 0 || c == 54 || c == 55 || nat_lt 63 c

abbrev pub item_class : ℕ → Bool
item_class c = between 1 11 c

-- the classes of Item one by one
abbrev pub item_classes : List ℕ
item_classes = 1 ∷ (2 ∷ (3 ∷ (4 ∷ (5 ∷ (6 ∷ (7 ∷ (8 ∷ (9 ∷ (10 ∷ (11 ∷ []))))))))))

abbrev pub descriptor : ℕ → Bool
descriptor c = between 59 63 c
