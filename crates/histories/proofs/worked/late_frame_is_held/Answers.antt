use Rattle.histories.proofs.Examples.{late_frame_is_held}
use Rattle.histories.proofs.worked.late_frame_is_held.Goals as goal

pub returns : goal.returns
returns c = late_frame_is_held
