use Rattle.histories.proofs.Soundness.{always_sound}
use Rattle.histories.proofs.claims.untaken_records_are_held.Goals as goal

pub returns : goal.returns
returns c = λ es s h. (always_sound es s h).untaken_held
