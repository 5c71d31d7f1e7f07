-- The carriers by their names, and the item bits of a label that is written here.
use Rattle.std.specs.Prelude.{ℕ, false, List, codes}
use Rattle.label.specs.declared.tag.ItemBits.{ItemBits}
use Rattle.carrier.specs.Writing.{Writing}
use Rattle.fm.specs.Frames.{fm_writing}
use Rattle.dab.specs.Frames.{dab_writing}
use Rattle.bench.specs.declared.carriers.Named.{Named}
use Rattle.bench.specs.declared.carriers.Named.TheVariants.{Fm, Dab}

-- a carrier's name
abbrev pub name_of : Named → List ℕ
name_of Fm = codes "fm"
name_of Dab = codes "dab"

abbrev pub writing_of : Named → Writing
writing_of Fm = fm_writing
writing_of Dab = dab_writing

-- both item bits 0
abbrev pub no_item : ItemBits
no_item = record { toggle = false; running = false }
