-- A test of some or of every entry of a list, by the names that the other definitions use.
use Rattle.std.specs.Prelude.{Bool, List}
use Rattle.std.specs.List.{list_any, list_all}

abbrev pub any : {X : Type 0} → (X → Bool) → List X → Bool
any p xs = list_any p xs

abbrev pub all : {X : Type 0} → (X → Bool) → List X → Bool
all p xs = list_all p xs
