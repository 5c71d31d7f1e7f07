use Rattle.witness.proofs.Shown.{on_both}
use Rattle.witness.proofs.both_show_the_sill.Goals as goal

pub returns : goal.returns
returns c = on_both c.carriers_agree.ensures c.carriers_agree-2.ensures c.history_decides.ensures
