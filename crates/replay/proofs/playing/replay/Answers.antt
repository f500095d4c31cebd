use Rattle.std.proofs.Common.{◌+◌, ◌^◌, ◌<◌, vec_items, arith}
use Rattle.replay.specs.Accounts.{account_of}
use Rattle.replay.proofs.Replaying.{begins, one_more_call, all_played}
use Rattle.replay.proofs.playing.replay.Goals as goal

pub loop-call-init : goal.loop-call-init
loop-call-init g c = begins _ c.args.calls.now _ _ c.open-provider.ensures.begins c.new-answers.ensures.items c.new-account.ensures

pub loop-call-preserved : goal.loop-call-preserved
loop-call-preserved g c =
    let few : c.loop-call.call-index + 1 < 2 ^ 64 = omega (arith, c.len.type_inv, c.in_ok-push.ensures.len, c.loop-call.invariant.answered, c.loop-call.answers.ok.0) in
    one_more_call _ _ _ c.args.calls.now c.loop-call.call-index (vec_items c.loop-call.answers) (vec_items c.push.new.self) (account_of c.loop-call.account) (account_of c.enter.new.self) _ c.in_ok-answer.answer
    c.loop-call.invariant c.loop-call-test.true few c.in_ok-answer.ensures c.enter.ensures c.in_ok-push.ensures.items

pub returns : goal.returns
returns g c =
    let all = all_played _ _ _ c.args.calls.now c.loop-call.call-index (vec_items c.loop-call.answers) (account_of c.loop-call.account) c.open-provider.ensures.opened c.loop-call-test.false c.loop-call.invariant in
    record { answers = all.0; replays = all.1 }
