use Rattle.histories.proofs.Soundness.{always_sound}
use Rattle.histories.proofs.claims.records_are_delivered.Goals as goal

pub returns : goal.returns
returns c = λ es s h. (always_sound es s h).delivered
