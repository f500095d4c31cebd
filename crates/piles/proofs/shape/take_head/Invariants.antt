use Rattle.script.specs.Arguments.{octets_left}
use Rattle.piles.proofs.shape.take_head.Given as goal

abbrev pub decreases-loop-limit : goal.decreases-loop-limit
decreases-loop-limit l = octets_left l.arguments
