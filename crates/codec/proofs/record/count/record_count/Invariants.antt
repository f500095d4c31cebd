use Rattle.std.proofs.Common.{◌≡◌, ◌-◌, ◌≤◌, length}
use Rattle.codec.specs.RecordReading.{records_in, records_from}
use Rattle.codec.specs.Reader.{count_or}
use Rattle.codec.proofs.Counting.{after}
use Rattle.codec.proofs.record.count.record_count.Given as goal

abbrev pub invariant-loop-part : goal.invariant-loop-part
invariant-loop-part l = (l.reader.pdu.now ≡ l.pdu) × (l.count ≤ l.reader.place) × (count_or (records_in l.pdu) ≡ after l.count (count_or (records_from (length l.pdu - l.count) l.pdu l.reader.place)))

abbrev pub decreases-loop-part : goal.decreases-loop-part
decreases-loop-part l = length l.pdu - l.reader.place
