use Rattle.histories.proofs.Soundness.{each_claim}
use Rattle.histories.proofs.claims.discards_are_told.Goals as goal

pub returns : goal.returns
returns c = λ es s s' e h st. (each_claim es s s' e h st).discards
