-- What the worked labels are on the air.
use Rattle.std.specs.Prelude.{◌≡◌, ℕ, ◌<◌, ◌≤◌, Bool, true, false, cond, List, [], ◌∷◌, map, length, None, Ok, Err, codes, Result, nat_le, slice_index_or}
use Rattle.label.specs.declared.refusal.Refusal.{Refusal}
use Rattle.label.specs.declared.refusal.Refusal.TheVariants.{LabelDoesNotFit, NoSuchFrame}
use Rattle.label.specs.declared.tag.Tag.{Tag}
use Rattle.label.specs.Drafts.{opening_refusal, done}
use Rattle.label.specs.Label.{Label, Outline, label_of}
use Rattle.label.specs.Tags.{part}
use Rattle.carrier.specs.Fields.{octets}
use Rattle.carrier.specs.Meaning.{Meaning}
use Rattle.carrier.specs.Writing.{Writing, place, write_refusal}
use Rattle.agreement.specs.Calls.{made, send}
use Rattle.agreement.specs.Station.{new_vars, send_refusal, Aired, aired}
use Rattle.fm.specs.Frames.{text_frame, announcing_frame, tags_frame, fm_writing}
use Rattle.fm.specs.Taking.{fm}
use Rattle.dab.specs.Frames.{dab_writing}
use Rattle.dab.specs.Taking.{dab}
use Rattle.edge.specs.Labels.{opened, answers, Refused, no_item, song, song_title, song_artist, song_outline, sill, sill_depth, sill_outline, sill_ready, sill_label}

-- both tags of the song come into a draft, and its label fits both carriers
pub record SongOnBoth : Type 0 where
  pub long : length song ≡ 61
  pub opens : opening_refusal song ≡ None
  pub tags : answers (opened song) (song_title ∷ song_artist ∷ []) ≡ None ∷ None ∷ []
  pub title : part song song_title ≡ codes "House of the rising sun"
  pub artist : part song song_artist ≡ codes "Eric Burdon"
  pub fits_fm : fm_writing.fits song_outline ≡ true
  pub fits_dab : dab_writing.fits song_outline ≡ true
  pub frames_fm : fm_writing.count song_outline ≡ 18
  pub frames_dab : dab_writing.count song_outline ≡ 5

abbrev pub service : ℕ
service = 0x1234

-- the sill's frames on FM: three of text, the announcement, the tag group
abbrev pub sill_on_fm : List (List ℕ)
sill_on_fm =
    octets 8 0x12342000_53696C6C
    ∷ octets 8 0x12342001_20322E34
    ∷ octets 8 0x12342002_206D0D20
    ∷ octets 8 0x12343016_00004BD7
    ∷ octets 8 0x1234B007_02840000
    ∷ []

-- and on DAB, each as prefix, data and check: the text, the command
abbrev pub sill_on_dab : List (List ℕ)
sill_on_dab =
    octets 14 0x6900_53696C6C20322E34206D_8A06
    ∷ octets 8 0x7203_00380502_6252
    ∷ []

-- what writing a frame of a label with item bits 0 into a place of its own gives
unfoldable pub written : Writing → Outline → List ℕ → Bool → ℕ → ℕ → Result (List ℕ) Refusal
written w o text toggle service n = done (write_refusal w o text n 21) (place (w.frame (label_of o no_item text) toggle service n))

-- a row in its place; behind the last row there is no frame
abbrev pub in_row : List (List ℕ) → ℕ → Result (List ℕ) Refusal
in_row rows n = cond (nat_le (length rows) n) (Err NoSuchFrame) (Ok (place (slice_index_or rows n [])))

-- what a new station puts on the air for the sill, with room for the frames
abbrev pub first_aired : {S : Type 0} → Meaning S → ℕ → List Aired
first_aired m room = aired m new_vars (made (send sill_ready sill) room ∷ [])

-- it is the sill's label, with message toggle and item bits 0
abbrev pub sill_aired : List Aired
sill_aired = record { label = sill_label; toggle = false } ∷ []

pub record SillOnFm : Type 0 where
  pub tags : answers (opened sill) (sill_depth ∷ []) ≡ None ∷ []
  pub depth : part sill sill_depth ≡ codes "2.4"
  pub first : first_aired fm 105 ≡ sill_aired
  pub count : fm_writing.count sill_outline ≡ 5
  pub frames : map (fm_writing.frame sill_label false service) (0 ∷ 1 ∷ 2 ∷ 3 ∷ 4 ∷ []) ≡ sill_on_fm
  pub places : (n : ℕ) → written fm_writing sill_outline sill false service n ≡ in_row sill_on_fm n
  pub behind : Refused (write_refusal fm_writing sill_outline sill 5 21) NoSuchFrame 15

pub record SillOnDab : Type 0 where
  pub first : first_aired dab 42 ≡ sill_aired
  pub count : dab_writing.count sill_outline ≡ 2
  pub frames : map (dab_writing.frame sill_label false service) (0 ∷ 1 ∷ []) ≡ sill_on_dab
  pub places : (n : ℕ) → written dab_writing sill_outline sill false service n ≡ in_row sill_on_dab n
  pub behind : Refused (write_refusal dab_writing sill_outline sill 2 21) NoSuchFrame 15

abbrev pub outline : ℕ → List Tag → Outline
outline len tags = record { len = len; tags = tags }

-- on FM a text of this length has sixteen text frames, and the announcement and the tag group behind them
pub record SixteenOfText (len : ℕ) : Type 0 where
  pub fits : (tags : List Tag) → length tags ≤ 2 → fm_writing.fits (outline len tags) ≡ true
  pub count : (tags : List Tag) → fm_writing.count (outline len tags) ≡ 18
  pub texts : (l : Label) (toggle : Bool) (v n : ℕ) → length l.text ≡ len → n < 16 → fm_writing.frame l toggle v n ≡ text_frame l.text toggle v n
  pub announces : (l : Label) (toggle : Bool) (v : ℕ) → length l.text ≡ len → fm_writing.frame l toggle v 16 ≡ announcing_frame v
  pub tag_group : (l : Label) (toggle : Bool) (v : ℕ) → length l.text ≡ len → fm_writing.frame l toggle v 17 ≡ tags_frame l.item l.tags v

-- one of 65 bytes does not fit, whatever its tags, the text and the buffer
pub record TooLong : Type 0 where
  pub sending : (tags : List Tag) (text : List ℕ) (room : ℕ) → Refused (send_refusal fm_writing (outline 65 tags) text room) LabelDoesNotFit 12
  pub writing : (tags : List Tag) (text : List ℕ) (number room : ℕ) → Refused (write_refusal fm_writing (outline 65 tags) text number room) LabelDoesNotFit 12

pub record LongTexts : Type 0 where
  pub of_60 : SixteenOfText 60
  pub of_63 : SixteenOfText 63
  pub of_64 : SixteenOfText 64
  pub of_65 : TooLong
