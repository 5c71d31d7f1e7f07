-- Texts put together from numbered segments.
use Rattle.std.specs.Prelude.{◌≡◌, ℕ, zero, suc, ◌-◌, ◌<◌, Bool, true, false, cond, ◌&&◌, ◌||◌, ◌⊎◌, List, [], ◌++◌, Some, None, Option, ◌==◌}
use Rattle.taking.specs.Pieces.{Pieces}
use Rattle.taking.specs.declared.look.Look.TheVariants.{Equal, Fresh, Unlike}
use Rattle.taking.specs.declared.look.Look.{Look}

-- a carrier's segments, D
pub record Segments (D : Type 0) : Type 0 where
  -- how many numbers there are
  pub count : ℕ
  -- the text ends in this segment
  pub ends : D → Bool
  -- the segment's part of the text
  pub bytes : D → List ℕ
  -- what the text goes on with behind the last number
  pub unended : Option (List ℕ)
  pub same : D → D → Bool
  -- how a segment looks that is numbered above a held one in which the text ends
  pub past : Look
  -- a segment in which the text ends is unlike what is held if a segment above it is held
  pub shuts : Bool

pub record Numbered (D : Type 0) : Type 0 where
  pub number : ℕ
  pub segment : D

-- the held segment of each number
abbrev pub Held : Type 0 → Type 0
Held D = ℕ → Option D

abbrev pub ends_at : {D : Type 0} → Segments D → Option D → Bool
ends_at g None = false
ends_at g (Some d) = g.ends d

-- the text ends in a held segment numbered below i
abbrev pub ends_below : {D : Type 0} → Segments D → Held D → ℕ → Bool
ends_below g h zero = false
ends_below g h (suc i) = ends_at g (h i) || ends_below g h i

abbrev pub is_held : {D : Type 0} → Option D → Bool
is_held None = false
is_held (Some d) = true

-- one of the f segments from i on is held
abbrev pub any_from : {D : Type 0} → Held D → ℕ → ℕ → Bool
any_from h zero i = false
any_from h (suc f) i = is_held (h i) || any_from h f (suc i)

abbrev pub look_at : {D : Type 0} → Segments D → Option D → D → Look
look_at g None d = Fresh
look_at g (Some e) d = cond (g.same e d) Equal Unlike

abbrev pub look_segment : {D : Type 0} → Segments D → Held D → Numbered D → Look
look_segment g h k =
    cond (ends_below g h k.number) g.past
    (cond (g.shuts && g.ends k.segment && any_from h (g.count - suc k.number) (suc k.number)) Unlike
    (look_at g (h k.number) k.segment))

abbrev pub put_segment : {D : Type 0} → Held D → Numbered D → Held D
put_segment h k = λ j. cond (j == k.number) (Some k.segment) (h j)

abbrev pub joined : List ℕ → Option (List ℕ) → Option (List ℕ)
joined xs None = None
joined xs (Some ys) = Some (xs ++ ys)

abbrev pub read_one : {D : Type 0} → Segments D → Option D → Option (List ℕ) → Option (List ℕ)
read_one g None rest = None
read_one g (Some d) rest = joined (g.bytes d) (cond (g.ends d) (Some []) rest)

-- the text from segment i on, where f numbers are left
abbrev pub read_from : {D : Type 0} → Segments D → Held D → ℕ → ℕ → Option (List ℕ)
read_from g h zero i = g.unended
read_from g h (suc f) i = read_one g (h i) (read_from g h f (suc i))

abbrev pub in_segments : {D : Type 0} → Segments D → Pieces (Held D) (Numbered D)
in_segments g = record { none = λ j. None; look = look_segment g; put = put_segment; text = λ h. read_from g h g.count 0 }

abbrev pub numbered : {D : Type 0} → (ℕ → D) → ℕ → Numbered D
numbered d i = record { number = i; segment = d i }

-- the parts of k segments from i on
abbrev pub all_bytes : {D : Type 0} → Segments D → (ℕ → D) → ℕ → ℕ → List ℕ
all_bytes g d zero i = []
all_bytes g d (suc k) i = g.bytes (d i) ++ all_bytes g d k (suc i)

-- d 0, d 1 .. d m are the segments of the text x
pub record SegmentsOf {D : Type 0} (g : Segments D) (x : List ℕ) (m : ℕ) (d : ℕ → D) : Type 0 where
  pub few : m < g.count
  pub goes_on : (i : ℕ) → i < m → g.ends (d i) ≡ false
  pub shut : (g.ends (d m) ≡ true) ⊎ ((suc m ≡ g.count) × (g.ends (d m) ≡ false) × (g.unended ≡ Some []))
  pub same : (i : ℕ) → g.same (d i) (d i) ≡ true
  pub joins : all_bytes g d (suc m) 0 ≡ x
