use Rattle.edge.proofs.Rows.{worked}
use Rattle.edge.proofs.table.worked_labels.Goals as goal

pub returns : goal.returns
returns c = worked
