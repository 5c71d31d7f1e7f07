-- What displays hold after the worked labels.
use Rattle.std.specs.Prelude.{◌≡◌, ℕ, Bool, true, false, not, List, [], ◌∷◌, ◌++◌, Some, None, codes}
use Rattle.label.specs.declared.tag.ItemBits.{ItemBits}
use Rattle.label.specs.Drafts.{opening_refusal}
use Rattle.label.specs.Label.{Label, marked}
use Rattle.label.specs.Tags.{part, deletion}
use Rattle.carrier.specs.Meaning.{Meaning}
use Rattle.agreement.specs.Calls.{Made, made, start, send}
use Rattle.agreement.specs.Rules.{Table, empty, on_label, on_labels}
use Rattle.agreement.specs.Station.{new_vars, replies, labels, aired}
use Rattle.fm.specs.Taking.{fm}
use Rattle.dab.specs.Taking.{dab}
use Rattle.edge.specs.Labels.{tag, opened, answers, hotline, hotline_label, title, title_ready, artist, artist_ready}

-- the space alone deletes, and with the digit behind it is stored: whatever a display holds, and whatever the item bits
pub record SpaceInHotline : Type 0 where
  pub opens : opening_refusal hotline ≡ None
  pub one : answers (opened hotline) (tag 12 8 0 ∷ []) ≡ None ∷ []
  pub two : answers (opened hotline) (tag 12 8 1 ∷ []) ≡ None ∷ []
  pub alone : deletion (part hotline (tag 12 8 0)) ≡ true
  pub deletes : (d : Table) (item : ItemBits) → (on_label d (hotline_label (tag 12 8 0) item)).row 12 ≡ []
  pub stores : (d : Table) (item : ItemBits) → (on_label d (hotline_label (tag 12 8 1) item)).row 12 ≡ codes " 0"

-- a label of the next item: it runs, and its item toggle is not that of the last complete label
pub record OfNextItem (d : Table) (l : Label) : Type 0 where
  pub before : Bool
  pub last : d.toggle ≡ Some before
  pub runs : l.item.running ≡ true
  pub other : l.item.toggle ≡ not before

-- one that names an artist (class 4) and no title (class 1) leaves no title, whatever was held
abbrev pub ArtistAlone : Type 0
ArtistAlone = (d : Table) (l : Label) (p : List ℕ) → OfNextItem d l → marked l 1 ≡ None → marked l 4 ≡ Some p → deletion p ≡ false → ((on_label d l).row 1 ≡ []) × ((on_label d l).row 4 ≡ p)

-- an item with its title; and then another item, with its artist alone
abbrev pub one_item : List Made
one_item = made start 0 ∷ made (send title_ready title) 168 ∷ []

abbrev pub two_items : List Made
two_items = one_item ++ (made start 0 ∷ made (send artist_ready artist) 105 ∷ [])

-- what a display holds for a class after all labels that a new station sends
abbrev pub held_after : {S : Type 0} → Meaning S → List Made → ℕ → List ℕ
held_after m ms c = (on_labels empty (labels (aired m new_vars ms))).row c

pub record TwoItems {S : Type 0} (m : Meaning S) : Type 0 where
  pub done : replies m new_vars two_items ≡ None ∷ None ∷ None ∷ None ∷ []
  pub first : held_after m one_item 1 ≡ title
  pub no_title : held_after m two_items 1 ≡ []
  pub second : held_after m two_items 4 ≡ artist

pub record NextItem : Type 0 where
  pub always : ArtistAlone
  pub on_fm : TwoItems fm
  pub on_dab : TwoItems dab
