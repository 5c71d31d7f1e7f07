-- What goes on the air, and what is told of it, by the structs that hold them.
use Rattle.std.specs.Prelude.{ℕ, List, Option}
use Rattle.label.specs.Drafts.{sealed_outline}
use Rattle.label.specs.Label.{Label, Outline, label_of}
use Rattle.label.specs.declared.refusal.Refusal.{Refusal}
use Rattle.carrier.specs.Writing.{Writing, write_refusal}
use Rattle.carrier.specs.Listed.{listed}
use Rattle.carrier.specs.declared.airing.Airing.{Airing}
use Rattle.carrier.specs.declared.told.Told.{Told}

-- the outline of the label on the air
abbrev pub outline : Airing → Outline
outline a = sealed_outline a.label.now

-- the label on the air
abbrev pub aired : Airing → Label
aired a = label_of (outline a) a.item a.text.now

-- its frame of a number
abbrev pub frame_of : Writing → Airing → ℕ → List ℕ
frame_of w a n = w.frame (aired a) a.toggle a.service n

-- why a frame of it is not written into so much room
abbrev pub airing_refusal : Writing → Airing → ℕ → ℕ → Option Refusal
airing_refusal w a n room = write_refusal w (outline a) a.text.now n room

-- the label that is told
abbrev pub told_label : Told → Label
told_label t = record { text = listed t.text; tags = listed t.tags; item = t.item }
