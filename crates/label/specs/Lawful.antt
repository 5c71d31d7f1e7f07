-- Which lists of tags are lawful for a text.
use Rattle.std.specs.Prelude.{ℕ, Bool, true, not, ◌&&◌, ◌||◌, List, [], ◌∷◌, length, nat_le}
use Rattle.label.specs.declared.tag.Tag.{Tag}
use Rattle.label.specs.Lists.{any, all}
use Rattle.label.specs.Tags.{lies_in, sounds, sounding, shares, of_class, is_descriptor, is_other}

-- two tags that can stand in one list: other classes, and no position in both parts
abbrev pub apart : Tag → Tag → Bool
apart t u = not (of_class t.class u) && not (shares t u)

abbrev pub all_apart : List Tag → Bool
all_apart [] = true
all_apart (t ∷ ts) = all (apart t) ts && all_apart ts

-- a Descriptor comes only beside a tag of another category
abbrev pub accompanied : List Tag → Bool
accompanied ts = not (any is_descriptor ts) || any is_other ts

-- a list without silent tags is lawful for a text of n bytes
abbrev pub lawful_sounding : ℕ → List Tag → Bool
lawful_sounding n ts = all (lies_in n) ts && all_apart ts && accompanied ts

-- a list is lawful for a text of n bytes, silent tags left out
abbrev pub lawful : ℕ → List Tag → Bool
lawful n ts = lawful_sounding n (sounding ts)

-- what a draft holds: up to four tags, none silent, lawful for its text
abbrev pub sealable : ℕ → List Tag → Bool
sealable n ts = nat_le (length ts) 4 && all sounds ts && lawful n ts
