use Rattle.histories.proofs.Progress.{served_runs_finish}
use Rattle.histories.proofs.liveness.served_runs_finish.Goals as goal

pub returns : goal.returns
returns c = served_runs_finish
