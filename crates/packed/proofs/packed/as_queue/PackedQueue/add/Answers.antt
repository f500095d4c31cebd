use Rattle.std.proofs.Common.{length, ◌∙◌, arith}
use Rattle.queue.proofs.Admission.{admitted}
use Rattle.packed.specs.Packing.{packed_largest, packed_room, packed_size}
use Rattle.packed.specs.Holding.{held_in, octets_in}
use Rattle.packed.proofs.Packs.{room_fits, used_is}
use Rattle.packed.proofs.packed.as_queue.PackedQueue.add.Goals as goal

pub put-requires-clause-fits : goal.put-requires-clause-fits
put-requires-clause-fits c =
    let old = c.args.self.now in
    let me = c.admission.new.self in
    let n = length c.args.octets.now in
    let room = (admitted (packed_largest (octets_in old)) n (packed_room (octets_in old) (held_in old) n) c.in_ok-admission.ensures.answer).0 in
    let fits = room_fits (octets_in me) (packed_size (held_in me)) n (c.admission.ensures.kept.space n ∙ room) in
    let used = used_is me in
    omega (arith, fits.0)
