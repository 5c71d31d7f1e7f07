-- The label that an entry is sent as: its text and the tags that mark parts of it.
use Rattle.std.specs.Prelude.{◌≡◌, ℕ, ◌+◌, ◌-◌, ◌/◌, ◌%◌, cond, ◌||◌, ◌⊎◌, List, [], ◌∷◌, ◌++◌, map, length, take, drop, None, Ok, Err, vec_items, codes, Option, Result, MatchOption, ◌==◌, nat_lt}
use Rattle.label.specs.declared.tag.Tag.{Tag}
use Rattle.programme.specs.declared.composed.Composed.{Composed}
use Rattle.programme.specs.declared.fault.Fault.{Fault}
use Rattle.programme.specs.declared.fault.Fault.TheVariants.{TooDeep, NoSong, TooLong, NoMemory}
use Rattle.programme.specs.Lines.{Said, nothing, reading, song, announcement}

pub record Label : Type 0 where
  pub text : List ℕ
  pub tags : List Tag

-- a depth below 100 metres in digits: tens if there are any, units, a point, tenths
abbrev pub depth_digits : ℕ → List ℕ
depth_digits tenths =
    cond (nat_lt tenths 100) [] ((48 + tenths / 100) ∷ []) ++ ((48 + tenths / 10 % 10) ∷ (46 ∷ ((48 + tenths % 10) ∷ [])))

abbrev pub reading_text : ℕ → List ℕ
reading_text tenths = codes "Sill " ++ depth_digits tenths ++ codes " m"

abbrev pub reading_label : ℕ → Result Label Fault
reading_label tenths =
    cond (nat_lt tenths 1000)
    (Ok (record { text = reading_text tenths; tags = record { class = 56; start = 5; extent = cond (nat_lt tenths 100) 2 3 } ∷ [] }))
    (Err TooDeep)

abbrev pub song_text : List ℕ → List ℕ → List ℕ
song_text title artist = codes "You are listening to \"" ++ title ++ codes "\" by " ++ artist

-- a marker is a byte: the artist starts 27 bytes behind the title's length, and no part is longer than 256 bytes
abbrev pub song_label : List ℕ → List ℕ → Result Label Fault
song_label title artist =
    cond (length title == 0 || length artist == 0) (Err NoSong)
    (cond (nat_lt 228 (length title) || nat_lt 256 (length artist)) (Err TooLong)
    (Ok (record {
      text = song_text title artist;
      tags = record { class = 1; start = 22; extent = length title - 1 }
          ∷ (record { class = 4; start = length title + 27; extent = length artist - 1 } ∷ []);
    })))

abbrev pub label_in : Composed → Label
label_in c = record { text = vec_items c.text; tags = vec_items c.tags }

abbrev pub labelled : Result Composed Fault → Result Label Fault
labelled (Ok c) = Ok (label_in c)
labelled (Err f) = Err f

-- the label, unless there is no memory for it
abbrev pub Composes : Result Composed Fault → Result Label Fault → Type 0
Composes r l = (r ≡ Err NoMemory) ⊎ (labelled r ≡ l)

-- the bytes that a tag marks
abbrev pub marked_by : List ℕ → Tag → List ℕ
marked_by text tag = take (tag.extent + 1) (drop tag.start text)

-- the tags mark these parts
abbrev pub Marks : Result Composed Fault → List (List ℕ) → Type 0
Marks (Ok c) parts = map (marked_by (vec_items c.text)) (vec_items c.tags) ≡ parts
Marks (Err f) parts = Unit {0}

-- what is made of an entry; nothing is made where there is nothing to send
abbrev pub Sends : Said → Option (Result Composed Fault) → Type 0
Sends nothing o = o ≡ None
Sends (reading time tenths) o = MatchOption o ⊥ (λ r. Composes r (reading_label tenths))
Sends (song title artist) o = MatchOption o ⊥ (λ r. Composes r (song_label title artist))
Sends (announcement text) o = MatchOption o ⊥ (λ r. Composes r (Ok (record { text = text; tags = [] })))

abbrev pub MarksParts : Said → Option (Result Composed Fault) → Type 0
MarksParts nothing o = o ≡ None
MarksParts (reading time tenths) o = MatchOption o ⊥ (λ r. Marks r (depth_digits tenths ∷ []))
MarksParts (song title artist) o = MatchOption o ⊥ (λ r. Marks r (title ∷ (artist ∷ [])))
MarksParts (announcement text) o = MatchOption o ⊥ (λ r. Marks r [])
