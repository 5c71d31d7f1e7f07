-- What is asked of a station.
use Rattle.std.specs.Prelude.{◌≡◌, ℕ, ◌≤◌, true, List, map}
use Rattle.label.specs.declared.sealed.Sealed.{Sealed}
use Rattle.label.specs.Drafts.{sealed_outline}
use Rattle.label.specs.Label.{Outline}
use Rattle.label.specs.Lawful.{sealable}

-- a label that is ready to be sent: its outline, as sealing leaves it
pub record Ready : Type 0 where
  pub outline : Outline
  pub some : 1 ≤ outline.len
  pub short : outline.len ≤ 128
  pub right : sealable outline.len outline.tags ≡ true

abbrev pub ready : Sealed → Ready
ready s = record { outline = sealed_outline s; some = s.0.some; short = s.0.short; right = s.0.right }

-- an item start, an item end, or a label to be sent over a text
pub data Call : Type 0 where
  start : Call
  end : Call
  send : Ready → List ℕ → Call

-- a call as it is made, with the length of the buffer that is lent for a sending
pub record Made : Type 0 where
  pub call : Call
  pub room : ℕ

abbrev pub made : Call → ℕ → Made
made c room = record { call = c; room = room }

abbrev pub calls : List Made → List Call
calls ms = map (λ a. a.call) ms
