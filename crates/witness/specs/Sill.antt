-- A short run on any carrier: an item start, a label sent over the text "Sill 2.4 m", an item end; and what is held after a hearing of it.
use Rattle.std.specs.Prelude.{◌≡◌, List, [], ◌∷◌, ℕ}
use Rattle.label.specs.Label.{Outline}
use Rattle.carrier.specs.Meaning.{Meaning}
use Rattle.agreement.specs.Calls.{Ready, Made, made, start, end, send}
use Rattle.agreement.specs.Runs.{Heard, own, other, AllFull, on_air, held, Run}
use Rattle.dab.specs.Taking.{dab}
use Rattle.fm.specs.Taking.{fm}

-- "Sill 2.4 m"
abbrev pub text : List ℕ
text = 0x53 ∷ 0x69 ∷ 0x6C ∷ 0x6C ∷ 0x20 ∷ 0x32 ∷ 0x2E ∷ 0x34 ∷ 0x20 ∷ 0x6D ∷ []

-- "Sill" is tagged as the item's title, class 1; "2.4" as the depth, class 56
abbrev pub outline : Outline
outline = record {
  len = 10;
  tags = record { class = 1; start = 0; extent = 3 } ∷ record { class = 56; start = 5; extent = 2 } ∷ [];
}

-- the sending has room for five frames
abbrev pub programme : Ready → List Made
programme x = made start 0 ∷ made (send x text) 105 ∷ made end 0 ∷ []

-- on FM the label's five frames, one of them twice, and an empty frame of another source
abbrev pub fm_hearings : List (List Heard)
fm_hearings = (own 0 ∷ own 1 ∷ own 1 ∷ other [] ∷ own 2 ∷ own 3 ∷ own 4 ∷ []) ∷ []

-- on DAB its two frames, the first of them twice, and an empty frame of another source
abbrev pub dab_hearings : List (List Heard)
dab_hearings = (own 0 ∷ own 0 ∷ other [] ∷ own 1 ∷ []) ∷ []

-- a display that hears it holds "Sill" and "2.4"
pub record Shows {S : Type 0} (m : Meaning S) (hearings : List (List Heard)) (service : ℕ) : Type 0 where
  pub label : Ready
  pub sealed : label.outline ≡ outline
  pub run : Run m service (programme label) hearings
  pub full : AllFull m (on_air m (programme label)) hearings
  pub title : held m service (programme label) hearings 1 ≡ 0x53 ∷ 0x69 ∷ 0x6C ∷ 0x6C ∷ []
  pub depth : held m service (programme label) hearings 56 ≡ 0x32 ∷ 0x2E ∷ 0x34 ∷ []

pub record ShowsOnBoth : Type 0 where
  pub on_fm : (service : ℕ) → Shows fm fm_hearings service
  pub on_dab : (service : ℕ) → Shows dab dab_hearings service
