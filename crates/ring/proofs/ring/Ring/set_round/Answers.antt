use Rattle.std.proofs.Common.{[], ◌∷◌, length, set, ap, ◌∙◌, arith}
use Rattle.ring.specs.Turns.{turned, placed}
use Rattle.ring.proofs.Turning.{placed_below, write_whole}
use Rattle.ring.proofs.Writing.{set_written}
use Rattle.ring.proofs.ring.Ring.set_round.Goals as goal

pub returns-clause-slots : goal.returns-clause-slots
returns-clause-slots g c =
    let me = c.args.self.now in
    let s = me.start in
    let k = c.args.k in
    let x = c.args.x in
    let xs = me.slots.now in
    let below = placed_below s k (length xs) me.begins (omega arith) in
    ap (λ p. turned s (set xs p x)) c.slot-at.ensures ∙ ap (turned s) (set_written xs (placed s k (length xs)) x below) ∙ write_whole s k xs (x ∷ []) me.begins (omega arith) (omega arith)
