use Rattle.std.proofs.Common.{ℕ, replicate}
use lib.ListN.{length-replicate}
use Rattle.provider.proofs.Buffers.{emptied}
use Rattle.provider.proofs.transfer_buffer.TransferBuffer.new.Goals as goal

pub invariant_of-result : goal.invariant_of-result
invariant_of-result c =
    let k = emptied (replicate 16488 0) (length-replicate {A = ℕ} 16488 0) in
    record { size = k.size; within = k.within; few = k.few; whole = k.whole; well = k.well; counted = k.counted; told = k.told }
