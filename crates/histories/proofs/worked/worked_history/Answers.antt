use Rattle.histories.proofs.Examples.{worked_history, worked_ledger}
use Rattle.histories.proofs.worked.worked_history.Goals as goal

pub returns : goal.returns
returns c = record { exists = worked_history; says = worked_ledger }
