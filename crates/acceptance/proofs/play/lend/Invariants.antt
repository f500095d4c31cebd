use Rattle.std.proofs.Common.{◌≡◌, ◌≤◌, map, length, take, vec_items}
use Rattle.replay.specs.Events.{call_of, call_owned}
use Rattle.acceptance.proofs.play.lend.Given as goal

abbrev pub invariant-loop-call : goal.invariant-loop-call
invariant-loop-call l = (l.call-index ≤ length l.calls) × (map call_of (vec_items l.lent) ≡ map call_owned (take l.call-index l.calls))
