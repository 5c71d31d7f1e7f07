-- Tags and the parts that they mark.
use Rattle.std.specs.Prelude.{ℕ, ◌+◌, Bool, false, cond, not, ◌&&◌, List, [], ◌∷◌, take, drop, ◌==◌, nat_le, nat_lt}
use Rattle.label.specs.declared.tag.Tag.{Tag}
use Rattle.label.specs.Classes.{silent, descriptor}
use Rattle.label.specs.Lists.{any, all}

-- the part of a text that a tag marks: extent + 1 bytes from the start
abbrev pub part : List ℕ → Tag → List ℕ
part text t = take (t.extent + 1) (drop t.start text)

-- the position behind a tag's part
abbrev pub behind : Tag → ℕ
behind t = t.start + t.extent + 1

-- the part lies in a text of n bytes
abbrev pub lies_in : ℕ → Tag → Bool
lies_in n t = nat_le (behind t) n

-- a part that is one space alone is a deletion
abbrev pub deletion : List ℕ → Bool
deletion [] = false
deletion (b ∷ []) = b == 0x20
deletion (b ∷ (x ∷ xs)) = false

abbrev pub sounds : Tag → Bool
sounds t = not (silent t.class)

-- silent tags left out
abbrev pub sounding : List Tag → List Tag
sounding [] = []
sounding (t ∷ ts) = cond (silent t.class) (sounding ts) (t ∷ sounding ts)

-- the two parts share a position
abbrev pub shares : Tag → Tag → Bool
shares t u = nat_lt u.start (behind t) && nat_lt t.start (behind u)

abbrev pub of_class : ℕ → Tag → Bool
of_class c t = c == t.class

abbrev pub is_descriptor : Tag → Bool
is_descriptor t = descriptor t.class

-- neither silent nor a Descriptor
abbrev pub is_other : Tag → Bool
is_other t = sounds t && not (descriptor t.class)

-- lists of tags compared
abbrev pub same_tag : Tag → Tag → Bool
same_tag t u = t.class == u.class && t.start == u.start && t.extent == u.extent

abbrev pub has : Tag → List Tag → Bool
has t us = any (same_tag t) us

abbrev pub has_all : List Tag → List Tag → Bool
has_all ts us = all (λ t. has t us) ts

-- the same tags, silent ones and order aside
abbrev pub alike : List Tag → List Tag → Bool
alike ts us = has_all (sounding ts) (sounding us) && has_all (sounding us) (sounding ts)
