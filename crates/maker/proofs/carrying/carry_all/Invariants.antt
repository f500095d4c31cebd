use Rattle.std.proofs.Common.{◌≡◌, ◌+◌, ◌++◌, length}
use Rattle.maker.proofs.carrying.carry_all.Given as goal

abbrev pub invariant-loop-k : goal.invariant-loop-k
invariant-loop-k g l =
    (l.k + length (g.F.Meaning.held l.from) ≡ length (g.F.Meaning.held l.initial.from))
    × (g.T.Meaning.held l.to ++ g.F.Meaning.held l.from ≡ g.T.Meaning.held l.initial.to ++ g.F.Meaning.held l.initial.from)
