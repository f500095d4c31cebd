use Rattle.std.proofs.Common.{map, vec_items, ap, ◌∙◌, arith}
use Rattle.replay.specs.Events.{call_of, call_owned}
use Rattle.acceptance.proofs.Lending.{one_more, all_lent}
use Rattle.acceptance.proofs.play.lend.Goals as goal

pub loop-call-init : goal.loop-call-init
loop-call-init c = (omega arith, ap (map call_of) c.in_ok-lent.ensures.items)

pub loop-call-preserved : goal.loop-call-preserved
loop-call-preserved c = (omega arith, one_more c.args.calls.now c.loop-call.call-index (vec_items c.loop-call.lent) (vec_items c.push.new.self) c.call-item.result c.lent.result c.loop-call-test.true c.loop-call.invariant.1 (c.lent.ensures ∙ ap call_owned c.call-item.is) c.in_ok-push.ensures.items)

pub returns : goal.returns
returns c = all_lent c.args.calls.now c.loop-call.call-index (vec_items c.loop-call.lent) c.loop-call-test.false c.loop-call.invariant.1
