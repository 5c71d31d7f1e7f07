-- How a text is put together from pieces, and when pieces are those of one text.
use Rattle.std.specs.Prelude.{◌≡◌, ℕ, ◌<◌, ◌⊎◌, List, Some, None, Option}
use Rattle.taking.specs.declared.look.Look.TheVariants.{Equal, Fresh}
use Rattle.taking.specs.declared.look.Look.{Look}

-- P is what is held, K a piece
pub record Pieces (P K : Type 0) : Type 0 where
  pub none : P
  pub look : P → K → Look
  pub put : P → K → P
  pub text : P → Option (List ℕ)

-- k 0, k 1 .. k (n - 1) are the pieces of the text x: `Part p` says that p is a part of it, and `Has p i` that p has piece i
pub record PiecesOf {P K : Type 0} (q : Pieces P K) (x : List ℕ) (n : ℕ) (k : ℕ → K) (Part : P → Type 0) (Has : P → ℕ → Type 0) : Type 0 where
  pub first : Part (q.put q.none (k 0))
  pub first_has : Has (q.put q.none (k 0)) 0
  pub looks : (p : P) (i : ℕ) → Part p → i < n → ((q.look p (k i) ≡ Equal) × Has p i) ⊎ (q.look p (k i) ≡ Fresh)
  pub grows : (p : P) (i : ℕ) → Part p → i < n → Part (q.put p (k i))
  pub has_new : (p : P) (i : ℕ) → Part p → i < n → Has (q.put p (k i)) i
  pub has_still : (p : P) (i j : ℕ) → Part p → i < n → Has p j → Has (q.put p (k i)) j
  pub texts : (p : P) → Part p → (q.text p ≡ None) ⊎ (q.text p ≡ Some x)
  pub whole : (p : P) → Part p → ((i : ℕ) → i < n → Has p i) → q.text p ≡ Some x
