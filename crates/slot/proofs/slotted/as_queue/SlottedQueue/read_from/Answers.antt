use Rattle.std.proofs.Common.{arith}
use Rattle.slot.proofs.Oldest.{read_within_octets}
use Rattle.slot.proofs.slotted.as_queue.SlottedQueue.read_from.Goals as goal

pub overflow_add-note : goal.overflow_add-note
overflow_add-note c = read_within_octets c.args.self.now c.in_ok-note.note c.args.place c.in_ok-note.ensures (omega arith)
