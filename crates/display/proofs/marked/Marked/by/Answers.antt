use Rattle.display.proofs.Steps.{part_found}
use Rattle.display.proofs.marked.Marked.by.Goals as goal

pub unwrap-requires : goal.unwrap-requires
unwrap-requires c = part_found c.args.told.now _ c.requires _ c.as_slice.ensures.value _ _ c.part.ensures
