-- The rows of a class table.
use Rattle.std.proofs.Common.{◌≡◌, ℕ, ◌-◌, ◌<◌, ◌≤◌, ◌⊎◌, Bool, true, false, List, [], length, get_or, Option, None, ap, ◌∙◌, inl, inr, ⊎_elim, arith, rules}
use Rattle.std.proofs.lemmas.Bool.{cases_lt}
use Rattle.std.proofs.lemmas.Bool.Decides.{nat_tests}
use Rattle.std.proofs.lemmas.List.{places, get_or_past}
use borrow.Rule.Slice.PartMut.{put_mid}
use Rattle.label.specs.Classes.{item_class}
use Rattle.std.specs.Array.{AllOfLen}
use Rattle.agreement.specs.Rules.{emptied, empty, by_rules}
use Rattle.agreement.specs.Shown.{Shown}
use Rattle.label.specs.Label.{Label}
use Rattle.display.specs.declared.table.ClassTable.{ClassTable}
use Rattle.display.specs.Held.{toggle_of, table_of}
use Rattle.arrayvec.specs.declared.array_vec.ArrayVec.{ArrayVec}

outside_item : (k : ℕ) → (k < 1) ⊎ (12 ≤ k) → item_class k ≡ false
outside_item k (inl h) = grind (arith, nat_tests)
outside_item k (inr h) = grind (arith, nat_tests)

inside_item : (k : ℕ) → 1 ≤ k → k < 12 → item_class k ≡ true
inside_item k g h = grind (arith, nat_tests)

module _ {X : Type 0} (items : X → List ℕ) (d : X) (xs ys : List X) (k : ℕ) (n : length xs ≡ 64) (m : length ys ≡ 11) where
  kept : (k < 1) ⊎ (12 ≤ k) → get_or (put_mid 1 11 xs ys) k d ≡ get_or xs k d → items (get_or (put_mid 1 11 xs ys) k d) ≡ emptied (item_class k) (items (get_or xs k d))
  kept h e = rw (outside_item k h, e)

  items_cleared : ((k : ℕ) → k < 11 → items (get_or ys k d) ≡ []) → items (get_or (put_mid 1 11 xs ys) k d) ≡ emptied (item_class k) (items (get_or xs k d))
  items_cleared h = ⊎_elim (λ g. kept (inl g) (before g)) (λ g. ⊎_elim (inside g) (λ l. kept (inr l) (behind l)) (cases_lt k 12)) (cases_lt k 1)
    where
      before : k < 1 → get_or (put_mid 1 11 xs ys) k d ≡ get_or xs k d
      before g = search (rules, places)

      behind : 12 ≤ k → get_or (put_mid 1 11 xs ys) k d ≡ get_or xs k d
      behind g = search (rules, places)

      inside : 1 ≤ k → k < 12 → items (get_or (put_mid 1 11 xs ys) k d) ≡ emptied (item_class k) (items (get_or xs k d))
      inside g l = rw (inside_item k g l) (ap items (search (rules, places)) ∙ h (k - 1) (omega arith))

-- the rows of Item emptied
pub row_cleared : (xs ys : List (ArrayVec ℕ 128 (Unit {0}))) (k : ℕ) → length xs ≡ 64 → length ys ≡ 11 → ((k : ℕ) → k < 11 → (get_or ys k (record { items = [] })).items ≡ [])
    → (get_or (put_mid 1 11 xs ys) k (record { items = [] })).items ≡ emptied (item_class k) (get_or xs k (record { items = [] })).items
row_cleared xs ys k n m h = items_cleared (λ v. v.items) _ xs ys k n m h

-- a new table holds nothing
pub new_row : (rows : List (ArrayVec ℕ 128 (Unit {0}))) (k : ℕ) → AllOfLen (λ v. v.items ≡ []) rows 64 → (get_or rows k (record { items = [] })).items ≡ []
new_row rows k all = ⊎_elim (λ h. all.at k _ h) (λ h. ap (λ x. x.items) (get_or_past rows k _ (let n = all.long in omega arith))) (cases_lt k 64)

-- a new table holds nothing
pub new_table : (t : ClassTable) → AllOfLen (λ v. v.items ≡ []) t.rows 64 → t.last ≡ None → table_of t ≡ empty
new_table t all e = λ i. record { row = λ k. new_row t.rows k all i; toggle = toggle_of (e i) }

-- a new display
pub new_shown : {S : Type 0} (state fresh : S) (rows : List (ArrayVec ℕ 128 (Unit {0}))) (toggle : Option Bool) → state ≡ fresh → AllOfLen (λ v. v.items ≡ []) rows 64 → toggle ≡ None
    → ◌≡◌ {A = Shown S} (record { carrier = state; table = record { row = λ k. (get_or rows k (record { items = [] })).items; toggle = toggle } }) (record { carrier = fresh; table = empty })
new_shown state fresh rows toggle s all e = λ i. record { carrier = s i; table = record { row = λ k. new_row rows k all i; toggle = e i } }

-- a label with running 0 leaves nothing in Item
pub idle_after : (last : Option Bool) (l : Label) (k : ℕ) (old : List ℕ) → item_class k ≡ true → l.item.running ≡ false → by_rules last l k old ≡ []
idle_after last l k old i r = grind arith
