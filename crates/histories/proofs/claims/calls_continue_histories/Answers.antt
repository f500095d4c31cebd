use Rattle.histories.proofs.Soundness.{steps_continue}
use Rattle.histories.proofs.claims.calls_continue_histories.Goals as goal

pub returns : goal.returns
returns c = steps_continue
