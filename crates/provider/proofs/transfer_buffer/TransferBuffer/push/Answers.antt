use Rattle.std.proofs.Common.{refl, arith}
use Rattle.codec.specs.RecordReading.{said}
use Rattle.provider.specs.declared.transfer_buffer.TransferBuffer.{TransferBuffer}
use Rattle.provider.proofs.Buffers.{Kept, room_for_one, pushed, accepted_small}
use Rattle.provider.proofs.transfer_buffer.TransferBuffer.push.Goals as goal

kept : (b : TransferBuffer) → Kept b.octets b.used b.count b.accepted
kept b = record { size = b.size; within = b.within; few = b.few; whole = b.whole; well = b.well; counted = b.counted; told = b.told }

pub write_at-requires : goal.write_at-requires
write_at-requires c =
    let b = c.args.self.now in
    omega (arith, room_for_one b.octets b.used b.count b.accepted (kept b) c.args.octets.now (said c.args.content.now) c.requires.one c.requires.room, b.size)

pub invariant_of-self : goal.invariant_of-self
invariant_of-self c =
    let b = c.args.self.now in
    let p = (pushed b.octets b.used b.count b.accepted (kept b) c.write_at.new.out c.args.octets.now (said c.args.content.now) c.accepted_weight.result
    c.requires.one c.requires.room c.write_at.ensures c.accepted_weight.ensures).0 in
    record { size = p.size; within = p.within; few = p.few; whole = p.whole; well = p.well; counted = p.counted; told = p.told }

pub returns : goal.returns
returns c =
    let b = c.args.self.now in
    let p = pushed b.octets b.used b.count b.accepted (kept b) c.write_at.new.out c.args.octets.now (said c.args.content.now) c.accepted_weight.result
    c.requires.one c.requires.room c.write_at.ensures c.accepted_weight.ensures in
    record { more = p.1; count = refl }

pub overflow_add-self-3 : goal.overflow_add-self-3
overflow_add-self-3 c =
    let b = c.args.self.now in
    let small = accepted_small b.octets b.used b.count b.accepted c.accepted_weight.result (said c.args.content.now) (kept b) c.accepted_weight.ensures in
    omega arith
