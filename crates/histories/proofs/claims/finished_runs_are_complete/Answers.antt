use Rattle.histories.proofs.Soundness.{always_sound}
use Rattle.histories.proofs.claims.finished_runs_are_complete.Goals as goal

pub returns : goal.returns
returns c = λ es s h. (always_sound es s h).complete
