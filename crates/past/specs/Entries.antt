-- What a past list holds.
use Rattle.std.specs.Prelude.{ℕ, List, [], ◌++◌, reverse, length, take, drop}
use Rattle.std.specs.Borrow.{MutBor}
use Rattle.past.specs.declared.Past.{Past}

-- what a list is to its caller
pub record Holding (X : Type 0) : Type 0 where
  -- newest first
  pub entries : List X
  -- the places that never held an entry
  pub spare : List X
  -- how many entries there is room for
  pub capacity : ℕ
  -- the loan that the places are of
  pub loan : ℕ

-- of the places that hold an entry, those from `next` on are older than those before it
abbrev pub newest_first : {X : Type 0} → List X → ℕ → List X
newest_first held next = reverse (take next held) ++ reverse (drop next held)

abbrev pub lies : {X : Type 0} → List X → ℕ → ℕ → ℕ → Holding X
lies places loan held next = record {
  entries = newest_first (take held places) next;
  spare = drop held places;
  capacity = length places;
  loan = loan;
}

abbrev pub holding : {X : Type 0} → Past X → Holding X
holding p = lies p.places.now p.places.ghost_name p.held p.next

-- places that are lent hold no entry yet
abbrev pub empty : {X : Type 0} → MutBor (List X) → Holding X
empty places = record { entries = []; spare = places.now; capacity = length places.now; loan = places.ghost_name }

-- the newest n of a list, newest first
abbrev pub latest : {X : Type 0} → ℕ → List X → List X
latest n xs = take n xs

-- entries are added one by one, the last as the newest: the oldest go where there is no place left
abbrev pub added : {X : Type 0} → List X → Holding X → Holding X
added xs h = record {
  entries = latest h.capacity (reverse xs ++ h.entries);
  spare = drop (length xs) h.spare;
  capacity = h.capacity;
  loan = h.loan;
}
