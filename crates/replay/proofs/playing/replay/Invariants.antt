use Rattle.std.proofs.Common.{vec_items}
use Rattle.provider.specs.States.{state_of}
use Rattle.replay.specs.Accounts.{account_of}
use Rattle.replay.proofs.Replaying.{Stands}
use Rattle.replay.proofs.playing.replay.Given as goal

abbrev pub invariant-loop-call : goal.invariant-loop-call
invariant-loop-call g l =
    Stands (state_of g.F.Meaning g.T.Meaning l.initial.provider) l.calls l.call-index (vec_items l.answers) (account_of l.account) (state_of g.F.Meaning g.T.Meaning l.provider)
