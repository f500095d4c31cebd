use Rattle.histories.proofs.Examples.{restart_discards}
use Rattle.histories.proofs.worked.restart_discards.Goals as goal

pub returns : goal.returns
returns c = restart_discards
