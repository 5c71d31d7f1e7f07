-- What sending writes: all frames of a label, each in its place, one place after another.
use Rattle.std.specs.Prelude.{ℕ, zero, suc, List, [], ◌++◌}
use Rattle.carrier.specs.Writing.{place}

-- the first k frames in their places
unfoldable pub places : (ℕ → List ℕ) → ℕ → List ℕ
places frame zero = []
places frame (suc k) = places frame k ++ place (frame k)
