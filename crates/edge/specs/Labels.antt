-- The worked labels: their texts, tags and drafts.
use Rattle.std.specs.Prelude.{◌≡◌, ℕ, false, List, [], ◌∷◌, length, Some, codes, Option, refl}
use Rattle.std.proofs.Common.{lit≤}
use Rattle.label.specs.declared.refusal.Refusal.{Refusal}
use Rattle.label.specs.declared.tag.ItemBits.{ItemBits}
use Rattle.label.specs.declared.tag.Tag.{Tag}
use Rattle.label.specs.Drafts.{untagged, tagging_refusal, tagged, left}
use Rattle.label.specs.Label.{Label, Outline, label_of}
use Rattle.label.specs.Refusals.{case_of}
use Rattle.agreement.specs.Calls.{Ready}

-- a tag of a class: start marker, length marker
abbrev pub tag : ℕ → ℕ → ℕ → Tag
tag class start extent = record { class = class; start = start; extent = extent }

-- a draft as it is opened over a text
abbrev pub opened : List ℕ → Outline
opened text = untagged (length text)

-- what a draft answers to tags that come one after another
abbrev pub answers : Outline → List Tag → List (Option Refusal)
answers o [] = []
answers o (t ∷ ts) = tagging_refusal o t ∷ answers (left (tagging_refusal o t) (tagged o t) o) ts

-- the draft after them
abbrev pub with_tags : Outline → List Tag → Outline
with_tags o [] = o
with_tags o (t ∷ ts) = with_tags (left (tagging_refusal o t) (tagged o t) o) ts

-- an answer is this refusal, which has this number
abbrev pub Refused : Option Refusal → Refusal → ℕ → Type 0
Refused answer e number = (answer ≡ Some e) × ((case_of e).number ≡ number)

-- the item bits before any item was started
abbrev pub no_item : ItemBits
no_item = record { toggle = false; running = false }

-- a song, with its title (class 1) and its artist (class 4)
abbrev pub song : List ℕ
song = codes "You are listening to \"House of the rising sun\" by Eric Burdon"

abbrev pub song_title : Tag
song_title = tag 1 22 22

abbrev pub song_artist : Tag
song_artist = tag 4 50 10

abbrev pub song_outline : Outline
song_outline = with_tags (opened song) (song_title ∷ song_artist ∷ [])

-- the depth over the sill (class 56)
abbrev pub sill : List ℕ
sill = codes "Sill 2.4 m"

abbrev pub sill_depth : Tag
sill_depth = tag 56 5 2

abbrev pub sill_outline : Outline
sill_outline = with_tags (opened sill) (sill_depth ∷ [])

abbrev pub sill_ready : Ready
sill_ready = record { outline = sill_outline; some = lit≤ tt; short = lit≤ tt; right = refl }

abbrev pub sill_label : Label
sill_label = label_of sill_outline no_item sill

-- a telephone number (class 12), under one tag
abbrev pub hotline : List ℕ
hotline = codes "Hotline: 0123456677"

abbrev pub hotline_label : Tag → ItemBits → Label
hotline_label t item = label_of (with_tags (opened hotline) (t ∷ [])) item hotline

-- a title alone, and an artist alone
abbrev pub title : List ℕ
title = codes "House of the rising sun"

abbrev pub title_ready : Ready
title_ready = record { outline = with_tags (opened title) (tag 1 0 22 ∷ []); some = lit≤ tt; short = lit≤ tt; right = refl }

abbrev pub artist : List ℕ
artist = codes "Eric Burdon"

abbrev pub artist_ready : Ready
artist_ready = record { outline = with_tags (opened artist) (tag 4 0 10 ∷ []); some = lit≤ tt; short = lit≤ tt; right = refl }
