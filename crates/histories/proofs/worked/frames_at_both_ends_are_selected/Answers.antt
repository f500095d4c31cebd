use Rattle.histories.proofs.Examples.{ends_are_selected}
use Rattle.histories.proofs.worked.frames_at_both_ends_are_selected.Goals as goal

pub returns : goal.returns
returns c = ends_are_selected
