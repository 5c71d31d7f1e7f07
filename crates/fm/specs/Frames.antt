-- RadioText and RT+: the frames that FM sends for a label. A frame is four blocks of 16 bits, high byte first.
use Rattle.std.specs.Prelude.{ℕ, ◌+◌, ◌*◌, ◌/◌, ◌^◌, Bool, cond, ◌&&◌, List, [], ◌∷◌, ◌++◌, length, take, drop, ◌==◌, nat_le, nat_lt}
use Rattle.label.specs.declared.tag.Tag.{Tag}
use Rattle.label.specs.declared.tag.ItemBits.{ItemBits}
use Rattle.label.specs.Label.{Label}
use Rattle.carrier.specs.Fields.{field, flag, word, octets}
use Rattle.carrier.specs.Writing.{Writing}

-- the number of the last text segment, by the text's length: room for a 0x0D behind a text below 64 bytes
abbrev pub last_segment : ℕ → ℕ
last_segment n = cond (nat_lt n 64) (n / 4) 15

-- a text below 64 bytes is closed by 0x0D; spaces fill its last segment
abbrev pub closed : List ℕ → List ℕ
closed x = cond (nat_lt (length x) 64) (x ++ (0x0D ∷ 0x20 ∷ 0x20 ∷ 0x20 ∷ [])) x

-- text positions 4s to 4s + 3
abbrev pub segment : List ℕ → ℕ → List ℕ
segment x s = take 4 (drop (4 * s) (closed x))

-- block 1: the service number
abbrev pub block_1 : ℕ → List ℕ
block_1 service = octets 2 service

-- block 2: group type, version A, six bits that nobody reads, five own bits
abbrev pub block_2 : ℕ → ℕ → List ℕ
block_2 group own = octets 2 (word (field 4 group ∷ field 1 0 ∷ field 6 0 ∷ field 5 own ∷ []))

-- group 2A: own bits are the message toggle (A/B flag) and the segment's number; blocks 3 and 4 are text
abbrev pub text_frame : List ℕ → Bool → ℕ → ℕ → List ℕ
text_frame x toggle service s = block_1 service ++ block_2 2 (word (flag toggle ∷ field 4 s ∷ [])) ++ segment x s

-- RT+, by the number under which applications are announced
abbrev pub application : ℕ
application = 0x4BD7

-- the group that carries our tags, 11A
abbrev pub tag_group : ℕ
tag_group = 11

-- group 3A: own bits are the tag group's type and version; block 3 is 0, the RT/eRT flag in it too; block 4 the application
abbrev pub announcing_frame : ℕ → List ℕ
announcing_frame service = block_1 service ++ block_2 3 (word (field 4 tag_group ∷ field 1 0 ∷ [])) ++ octets 2 0 ++ octets 2 application

-- an unused tag
abbrev pub dummy : Tag
dummy = record { class = 0; start = 0; extent = 0 }

-- the two tags as they are sent: they change places if the second part is over 32 bytes, since its length has five bits
abbrev pub sent_tags : List Tag → List Tag
sent_tags [] = dummy ∷ dummy ∷ []
sent_tags (t ∷ []) = t ∷ dummy ∷ []
sent_tags (t ∷ (u ∷ us)) = cond (nat_lt 32 (u.extent + 1)) (u ∷ t ∷ []) (t ∷ u ∷ [])

abbrev pub first_tag : List Tag → Tag
first_tag [] = dummy
first_tag (t ∷ ts) = t

abbrev pub second_tag : List Tag → Tag
second_tag [] = dummy
second_tag (t ∷ ts) = first_tag ts

-- the 37 bits of a tag group
abbrev pub tag_bits : ItemBits → Tag → Tag → ℕ
tag_bits item t u =
    word (flag item.toggle ∷ flag item.running
    ∷ field 6 t.class ∷ field 6 t.start ∷ field 6 t.extent
    ∷ field 6 u.class ∷ field 6 u.start ∷ field 5 u.extent ∷ [])

-- the tag group: the five highest are its own bits, the others blocks 3 and 4
abbrev pub bits_frame : ℕ → ℕ → List ℕ
bits_frame service bits = block_1 service ++ block_2 tag_group (bits / 2 ^ 32) ++ octets 4 bits

abbrev pub tags_frame : ItemBits → List Tag → ℕ → List ℕ
tags_frame item tags service = bits_frame service (tag_bits item (first_tag (sent_tags tags)) (second_tag (sent_tags tags)))

-- text segments, then 3A, then the tag group
unfoldable pub fm_frame : Label → Bool → ℕ → ℕ → List ℕ
fm_frame l toggle service n =
    cond (nat_le n (last_segment (length l.text))) (text_frame l.text toggle service n)
    (cond (n == last_segment (length l.text) + 1) (announcing_frame service) (tags_frame l.item l.tags service))

-- labels fit up to 64 bytes and two tags
abbrev pub fm_writing : Writing
fm_writing = record {
  fits = λ o. nat_le o.len 64 && nat_le (length o.tags) 2;
  count = λ o. last_segment o.len + 3;
  frame = fm_frame;
}
