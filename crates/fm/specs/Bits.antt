-- The 37 bits of a tag group, there and back.
use Rattle.std.specs.Prelude.{◌≡◌, ℕ, ◌+◌, ◌<◌, ◌≤◌, true, List, [], ◌∷◌, length}
use Rattle.std.proofs.Common.{ap, ◌∙◌, arith}
use Rattle.std.proofs.lemmas.Bool.Decides.{nat_tests}
use Rattle.std.proofs.lemmas.Nat.{div-mul-add, mod-mul-add}
use Rattle.label.specs.declared.tag.Tag.{Tag}
use Rattle.label.specs.declared.tag.ItemBits.{ItemBits}
use Rattle.label.specs.Label.{Label}
use Rattle.label.specs.Lawful.{apart, lawful_sounding}
use Rattle.label.specs.Lists.{all}
use Rattle.label.specs.Tags.{lies_in, sounds}
use Rattle.label.proofs.Sounding.{sounding_all}
use Rattle.carrier.specs.Hearing.{Sendable}
use Rattle.fm.specs.Frames.{first_tag, second_tag, sent_tags, tag_bits, bits_frame}
use Rattle.fm.specs.Taking.{fm, read_bits, unpacked}

-- a tag whose markers fit their fields
pub record Small (t : Tag) (n : ℕ) : Type 0 where
  pub class : t.class < 64
  pub start : t.start < 64
  pub extent : t.extent < n

module _ (i : ItemBits) (t u : Tag) (ts : Small t 64) (us : Small u 32) where
  pub unpack_packed : unpacked (tag_bits i t u) ≡ record { item = i; tags = t ∷ u ∷ [] }
  unpack_packed = grind (arith, div-mul-add, mod-mul-add, ts.class, ts.start, ts.extent, us.class, us.start, us.extent)

  pub bits_small : tag_bits i t u < 137438953472
  bits_small = grind (arith, ts.class, ts.start, ts.extent, us.class, us.start, us.extent)

-- the bits of a frame are those that were put into it
pub read_back : (v n : ℕ) → n < 137438953472 → read_bits (bits_frame v n) ≡ n
read_back v n c = grind arith

pub tags_read : (i : ItemBits) (t u : Tag) (v : ℕ) → Small t 64 → Small u 32 → unpacked (read_bits (bits_frame v (tag_bits i t u))) ≡ record { item = i; tags = t ∷ u ∷ [] }
tags_read i t u v ts us = ap unpacked (read_back v (tag_bits i t u) (bits_small i t u ts us)) ∙ unpack_packed i t u ts us

-- the tags of a label that fits are small
pub record Fitting (ts : List Tag) : Type 0 where
  pub first : Small (first_tag ts) 64
  pub second : Small (second_tag ts) 32

module _ (n : ℕ) (short : n ≤ 64) where
  in_text : (t : Tag) → sounds t ≡ true → lies_in n t ≡ true → Small t 64
  in_text t s e = grind (arith, nat_tests)

  apart_short : (t u : Tag) → lies_in n t ≡ true → lies_in n u ≡ true → apart t u ≡ true → t.extent + u.extent < 63
  apart_short t u e f a = grind (arith, nat_tests)

  fitting : (ts : List Tag) → length ts ≤ 2 → all sounds ts ≡ true → lawful_sounding n ts ≡ true → Fitting (sent_tags ts)
  fitting [] c s l = grind (arith, nat_tests)
  fitting (t ∷ []) c s l = grind (arith, nat_tests, in_text)
  fitting (t ∷ (u ∷ [])) c s l = grind (arith, nat_tests, in_text, apart_short)
  fitting (t ∷ (u ∷ (w ∷ ws))) c s l = absurd (omega arith)

pub fm_fitting : (l : Label) → Sendable fm l → length l.text ≤ 64 → length l.tags ≤ 2 → Fitting (sent_tags l.tags)
fm_fitting l z c k = let s : all sounds l.tags ≡ true = grind (arith, nat_tests) in fitting (length l.text) c l.tags k s (grind (arith, nat_tests, sounding_all l.tags s))
