-- The table of worked labels. Tags are written start marker/length marker.
use Rattle.edge.specs.Drafting.{LastBytes, Neighbours}
use Rattle.edge.specs.Frames.{SongOnBoth, SillOnFm, SillOnDab, LongTexts}
use Rattle.edge.specs.Holding.{SpaceInHotline, NextItem}

pub record WorkedLabels : Type 0 where
  -- 61 bytes, title and artist: 18 frames on FM, 5 on DAB
  pub song : SongOnBoth
  -- "Sill 2.4 m" as a new station sends it, to the byte
  pub sill_on_fm : SillOnFm
  pub sill_on_dab : SillOnDab
  -- in its ten bytes 7/2 lies inside, and 8/2 does not
  pub last_bytes : LastBytes
  -- 0/3 and 4/3 stand side by side, 0/4 and 4/3 share a position
  pub neighbours : Neighbours
  -- in "Hotline: 0123456677" 8/0 deletes and 8/1 stores
  pub space : SpaceInHotline
  -- FM: 60, 63 and 64 bytes fill sixteen text frames, and 65 do not fit
  pub long_texts : LongTexts
  -- the next item's artist leaves no title of the item before
  pub next_item : NextItem
