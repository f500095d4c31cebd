use Rattle.provider.proofs.Buffers.{emptied}
use Rattle.provider.proofs.transfer_buffer.TransferBuffer.clear.Goals as goal

pub invariant_of-self : goal.invariant_of-self
invariant_of-self c =
    let k = emptied c.args.self.now.octets c.args.self.now.size in
    record { size = k.size; within = k.within; few = k.few; whole = k.whole; well = k.well; counted = k.counted; told = k.told }
