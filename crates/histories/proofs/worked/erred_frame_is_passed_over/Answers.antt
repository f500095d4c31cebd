use Rattle.histories.proofs.Examples.{erred_is_passed_over}
use Rattle.histories.proofs.worked.erred_frame_is_passed_over.Goals as goal

pub returns : goal.returns
returns c = erred_is_passed_over
