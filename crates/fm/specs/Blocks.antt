-- A frame's blocks as they arrive.
use Rattle.std.specs.Prelude.{◌≡◌, ℕ, ◌/◌, ◌%◌, ◌&&◌, cond, List, length, Ok, Err, Result, ◌==◌}
use Rattle.label.specs.declared.refusal.Refusal.{Refusal}
use Rattle.label.specs.declared.refusal.Refusal.TheVariants.{WrongSize, UnusableGroup}
use Rattle.label.specs.declared.tag.Tag.{Tag}
use Rattle.fm.specs.declared.blocks.Blocks.{Blocks}
use Rattle.fm.specs.Taking.{own_bits, usable}

-- only a frame of eight bytes has them
abbrev pub Holds : List ℕ → Result Blocks Refusal → Type 0
Holds f (Ok b) = (length f ≡ 8) × (b.0 ≡ f)
Holds f (Err e) = (length f ≡ 8 → ⊥) × (e ≡ WrongSize)

-- the tag group that an announcement speaks of
abbrev pub announced : List ℕ → Result ℕ Refusal
announced f = cond (own_bits f % 2 == 0 && usable (own_bits f / 2)) (Ok (own_bits f / 2)) (Err UnusableGroup)

-- the tag in the low bits of n, with e length markers
abbrev pub tag_below : ℕ → ℕ → Tag
tag_below n e = record { class = n / e / 64 % 64; start = n / e % 64; extent = n % e }
