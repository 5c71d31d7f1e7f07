use Rattle.std.proofs.Common.{ap, ◌∙◌}
use Rattle.std.proofs.lemmas.List.{take_all}
use Rattle.carrier.specs.Writing.{place}
use Rattle.dab.proofs.writing.lay.Goals as goal

pub returns : goal.returns
returns c = c.in_place.ensures ∙ ap place (take_all 20 _ c.deref.ensures.1 ∙ c.deref.ensures.0 ∙ c.airing_frame.ensures)
