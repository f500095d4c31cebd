use Rattle.std.proofs.Common.{◌-◌, length, take, drop, ap, ◌∙◌, arith}
use Rattle.std.proofs.lemmas.List.{take_rest}
use Rattle.ring.specs.Turns.{turned, placed}
use Rattle.ring.specs.Parts.{written}
use Rattle.ring.proofs.Turning.{placed_within, write_whole, write_parts}
use Rattle.ring.proofs.ring.Ring.write_round.Goals as goal

pub returns-then-run-tail-clause-slots : goal.returns-then-run-tail-clause-slots
returns-then-run-tail-clause-slots g c =
    let me = c.args.self.now in
    let s = me.start in
    let k = c.args.k in
    let xs = me.slots.now in
    let run = c.args.run.now in
    let within = placed_within s k (length xs) me.begins (omega arith) in
    ap (turned s) (c.write.ensures.left ∙ ap (λ p. written xs p run) c.slot-at.ensures) ∙ write_whole s k xs run me.begins (omega arith) (omega arith)

pub returns-else-run-tail-clause-slots : goal.returns-else-run-tail-clause-slots
returns-else-run-tail-clause-slots g c =
    let me = c.args.self.now in
    let s = me.start in
    let k = c.args.k in
    let xs = me.slots.now in
    let run = c.args.run.now in
    let t = length xs - c.slot-at.result in
    let first = c.write-else-run-tail.ensures.left ∙ ap (λ p. written xs p (take t run)) c.slot-at.ensures in
    ap (turned s) (c.write-else-run-tail-2.ensures.left ∙ ap (λ q. written q 0 (take (length run - t) (drop t run))) first ∙ ap (written (written xs (placed s k (length xs)) (take t run)) 0) (take_rest run t))
    ∙ write_parts s k t xs run me.begins (omega arith) (omega arith) (omega arith)
