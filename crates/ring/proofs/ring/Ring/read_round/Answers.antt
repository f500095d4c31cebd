use Rattle.std.proofs.Common.{◌≡◌, ◌-◌, ◌++◌, length, take, drop, ap, ◌∙◌, arith, length-append, length-drop, length-take}
use Rattle.std.proofs.lemmas.List.{take_rest, length-take-le}
use Rattle.ring.proofs.Writing.{filled_behind}
use Rattle.ring.proofs.Turning.{placed_within, read_whole, read_parts}
use Rattle.ring.proofs.ring.Ring.read_round.Goals as goal

pub returns-then-out-tail : goal.returns-then-out-tail
returns-then-out-tail g c =
    let me = c.args.self.now in
    let s = me.start in
    let k = c.args.k in
    let n = length c.args.out.now in
    let xs = me.slots.now in
    let within = placed_within s k (length xs) me.begins (omega arith) in
    c.read.ensures ∙ ap (λ p. take n (drop p xs)) c.slot-at.ensures ∙ read_whole s k n xs me.begins (omega arith) (omega arith)

pub returns-else-out-tail : goal.returns-else-out-tail
returns-else-out-tail g c =
    let me = c.args.self.now in
    let s = me.start in
    let k = c.args.k in
    let xs = me.slots.now in
    let out = c.args.out.now in
    let n = length out in
    let p = c.slot-at.result in
    let t = length xs - p in
    let a = c.read-else-out-tail.new.out in
    let b = c.read-else-out-tail-2.new.out in
    let lt : length (take t out) ≡ t = length-take-le t out (omega arith) in
    let first : a ≡ drop p xs = c.read-else-out-tail.ensures ∙ ap (λ q. take q (drop p xs)) lt ∙ take_rest xs p in
    let la : length a ≡ t = ap length first ∙ length-drop p xs in
    let more : length (take (length (a ++ drop t out) - t) (drop t (a ++ drop t out))) ≡ n - t = simp (length-take, length-drop, length-append) (omega arith) in
    let second : b ≡ take (n - t) xs = c.read-else-out-tail-2.ensures ∙ ap (λ q. take q xs) more in
    let within = placed_within s k (length xs) me.begins (omega arith) in
    let parts = ap (λ q. drop q xs ++ take (n - t) xs) c.slot-at.ensures ∙ read_parts s k n t xs me.begins (omega arith) (omega arith) (omega arith) in
    filled_behind a b out t la (omega arith) ∙ ap (λ q. q ++ b) first ∙ ap (λ q. drop p xs ++ q) second ∙ parts
