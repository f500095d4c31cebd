use Rattle.std.proofs.Common.{rules}
use Rattle.ring.specs.Rings.{elements}
use Rattle.packed.proofs.Packs.{shrunk}
use Rattle.packed.proofs.packed.as_queue.PackedQueue.drop.Goals as goal

pub invariant_of-self : goal.invariant_of-self
invariant_of-self c =
    let p = shrunk c.args.self.now c.in_ok-n.field-0 (elements c.drop_run.new.self) c.in_ok-n.ensures c.drop_run.ensures.list in
    record { whole = p.1; counted = p.2 }

pub returns-clause-left : goal.returns-clause-left
returns-clause-left c =
    let p = shrunk c.args.self.now c.in_ok-n.field-0 (elements c.drop_run.new.self) c.in_ok-n.ensures c.drop_run.ensures.list in
    let list = p.0 in
    search rules
