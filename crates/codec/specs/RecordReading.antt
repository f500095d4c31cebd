-- Reading records: the one at a place, all those of a PDU, and a string of octets that is exactly one.
use Rattle.std.specs.Prelude.{ℕ, zero, suc, ◌+◌, cond, List, [], ◌∷◌, length, Some, None, Ok, Err, Option, Result, ◌==◌, nat_le}
use Rattle.std.specs.Str.{bytes_eq}
use Rattle.codec.specs.Limits.{time_length, frame_header_length, notification_length}
use Rattle.codec.specs.Blocks.{block_at}
use Rattle.codec.specs.Times.{Stamp, stamp}
use Rattle.codec.specs.Fields.{fault, present, and_then, provided, octet_at, value_at, zero_at, two_octets_at, stamp_at, zero_stamp_at}
use Rattle.codec.specs.Records.{Record, frame, loss, status, end_of_data, frame_mark, notification_mark, loss_type, status_type, end_of_data_type, data_length_allowed, encode}
use Rattle.codec.specs.declared.fault.Fault.{Fault}
use Rattle.codec.specs.declared.fault.FaultKind.TheVariants.{Mark, Value}
use Rattle.codec.specs.declared.record.Quality.{Quality}
use Rattle.codec.specs.declared.record.Quality.TheVariants.{Good, Erred, Undetermined}
use Rattle.codec.specs.declared.record.ProductionStatus.{ProductionStatus}
use Rattle.codec.specs.declared.record.ProductionStatus.TheVariants.{Running, Interrupted, Halted}
use Rattle.codec.specs.declared.record.Notification.TheVariants.{LossOfFrameSynchronization, ProductionStatusChange, EndOfData}
use Rattle.codec.specs.declared.record.RecordContent.{RecordContent}
use Rattle.codec.specs.declared.record.RecordContent.TheVariants.{Frame, Notification}

-- What a record says, but for a frame's data, of which it has the length.
pub data Content : Type 0 where
  frame_content : Quality → Stamp → ℕ → Content
  loss_content : Stamp → Content
  status_content : ProductionStatus → Content
  end_content : Content

-- The content of a record, of one that may be faulty, and of one that may be absent.
abbrev pub content_of : Record → Content
content_of (frame q t d) = frame_content q t (length d)
content_of (loss t) = loss_content t
content_of (status s) = status_content s
content_of end_of_data = end_content

abbrev pub content_or : Result Record Fault → Result Content Fault
content_or (Ok r) = Ok (content_of r)
content_or (Err e) = Err e

abbrev pub content_if : Option Record → Option Content
content_if (Some r) = Some (content_of r)
content_if None = None

-- The content of the code's own type, and of what the readers of the code answer.
abbrev pub said : RecordContent → Content
said (Frame q t n) = frame_content q (stamp t) n
said (Notification (LossOfFrameSynchronization t)) = loss_content (stamp t)
said (Notification (ProductionStatusChange s)) = status_content s
said (Notification EndOfData) = end_content

abbrev pub said_or : Result RecordContent Fault → Result Content Fault
said_or (Ok c) = Ok (said c)
said_or (Err e) = Err e

abbrev pub said_if : Option RecordContent → Option Content
said_if (Some c) = Some (said c)
said_if None = None

-- The quality and the production status that an octet stands for.
abbrev pub quality_of : ℕ → Option Quality
quality_of n = cond (n == 0) (Some Good) (cond (n == 1) (Some Erred) (cond (n == 2) (Some Undetermined) None))

abbrev pub status_of : ℕ → Option ProductionStatus
status_of n = cond (n == 0) (Some Running) (cond (n == 1) (Some Interrupted) (cond (n == 2) (Some Halted) None))

-- The fields of a quality and of a production status.
abbrev pub quality_at : List ℕ → ℕ → Result Quality Fault
quality_at xs at = value_at quality_of xs at

abbrev pub status_at : List ℕ → ℕ → Result ProductionStatus Fault
status_at xs at = value_at status_of xs at

-- A data length, and that many octets behind it.
abbrev pub data_length_at : List ℕ → ℕ → Result ℕ Fault
data_length_at xs at = and_then (two_octets_at xs at) (λ n. provided (data_length_allowed n) at (present xs (at + 2) n n))

-- The fields of the records, each behind the mark that stands at the place.
abbrev pub frame_at : List ℕ → ℕ → Result Content Fault
frame_at xs at =
    and_then (quality_at xs (at + 2)) (λ q.
    and_then (stamp_at xs (at + 3)) (λ t.
    and_then (data_length_at xs (at + 3 + time_length)) (λ n.
    Ok (frame_content q t n))))

abbrev pub loss_at : List ℕ → ℕ → Result Content Fault
loss_at xs at =
    and_then (stamp_at xs (at + 3)) (λ t.
    and_then (zero_at xs (at + 3 + time_length)) (λ _.
    Ok (loss_content t)))

abbrev pub status_change_at : List ℕ → ℕ → Result Content Fault
status_change_at xs at =
    and_then (zero_stamp_at xs (at + 3)) (λ _.
    and_then (status_at xs (at + 3 + time_length)) (λ s.
    Ok (status_content s)))

abbrev pub end_of_data_at : List ℕ → ℕ → Result Content Fault
end_of_data_at xs at =
    and_then (zero_stamp_at xs (at + 3)) (λ _.
    and_then (zero_at xs (at + 3 + time_length)) (λ _.
    Ok end_content))

abbrev pub notification_at : List ℕ → ℕ → Result Content Fault
notification_at xs at =
    and_then (octet_at xs (at + 2)) (λ type.
    cond (type == loss_type) (loss_at xs at)
    (cond (type == status_type) (status_change_at xs at)
    (cond (type == end_of_data_type) (end_of_data_at xs at)
    (Err (fault Value (at + 2))))))

-- The content of the record at a place.
abbrev pub content_at : List ℕ → ℕ → Result Content Fault
content_at xs at =
    and_then (two_octets_at xs at) (λ mark.
    cond (mark == frame_mark) (frame_at xs at)
    (cond (mark == notification_mark) (notification_at xs at)
    (Err (fault Mark at))))

-- The record of a content, a frame's data taken from behind its header.
abbrev pub record_of : List ℕ → ℕ → Content → Record
record_of xs at (frame_content q t n) = frame q t (block_at xs (at + frame_header_length) n)
record_of xs at (loss_content t) = loss t
record_of xs at (status_content s) = status s
record_of xs at end_content = end_of_data

-- The record at a place, or its first fault.
unfoldable pub record_at : List ℕ → ℕ → Result Record Fault
record_at xs at = and_then (content_at xs at) (λ c. Ok (record_of xs at c))

-- A record before those that are read behind it.
abbrev pub prepended : Record → Result (List Record) Fault → Result (List Record) Fault
prepended r (Ok rs) = Ok (r ∷ rs)
prepended r (Err e) = Err e

-- The records from a place to the input's end, at most n of them.
abbrev pub records_from : ℕ → List ℕ → ℕ → Result (List Record) Fault
records_from zero xs at = Ok []
records_from (suc n) xs at =
    cond (nat_le (length xs) at) (Ok [])
    (and_then (record_at xs at) (λ r. prepended r (records_from n xs (at + length (encode r)))))

-- All the records of a PDU, or the first fault; each has an octet at least, so there are no more than octets.
unfoldable pub records_in : List ℕ → Result (List Record) Fault
records_in xs = records_from (length xs) xs 0

-- A record that was read from octets, where they are all its octets.
abbrev pub whole : List ℕ → Result Record Fault → Option Record
whole xs (Ok r) = cond (bytes_eq (encode r) xs) (Some r) None
whole xs (Err e) = None

-- The record that the octets are, if they are exactly one: it stands at their front, and they are its octets.
unfoldable pub one_record : List ℕ → Option Record
one_record xs = whole xs (record_at xs 0)

-- How many octets a record of this content has.
abbrev pub size : Content → ℕ
size (frame_content q t n) = frame_header_length + n
size (loss_content t) = notification_length
size (status_content s) = notification_length
size end_content = notification_length
