use Rattle.histories.proofs.Possible.{calls_can_be_served}
use Rattle.histories.proofs.liveness.calls_can_be_served.Goals as goal

pub returns : goal.returns
returns c = calls_can_be_served
