-- Records: what each says, the octets that it is written as, and when it is well formed.
use Rattle.std.specs.Prelude.{◌≡◌, ℕ, ◌≤◌, Bool, true, cond, ◌&&◌, List, [], ◌∷◌, ◌++◌, length, drop, Ok, Err, Result, nat_le}
use Rattle.codec.specs.Limits.{data_limit}
use Rattle.codec.specs.Times.{Stamp, stamp, timely, zero_stamp, two_octets, stamp_octets}
use Rattle.codec.specs.declared.record.Quality.{Quality}
use Rattle.codec.specs.declared.record.Quality.TheVariants.{Good, Erred, Undetermined}
use Rattle.codec.specs.declared.record.ProductionStatus.{ProductionStatus}
use Rattle.codec.specs.declared.record.ProductionStatus.TheVariants.{Running, Interrupted, Halted}
use Rattle.codec.specs.declared.record.Notification.{Notification}
use Rattle.codec.specs.declared.record.Notification.TheVariants.{LossOfFrameSynchronization, ProductionStatusChange, EndOfData}
use Rattle.codec.specs.declared.record.WriteRefusal.{WriteRefusal}
use Rattle.codec.specs.declared.record.WriteRefusal.TheVariants.{DataLength, BufferTooShort}

-- A frame with its quality, time and data, or a notification: loss of frame synchronization at a time,
-- a change of the production status, the end of data.
pub data Record : Type 0 where
  frame : Quality → Stamp → List ℕ → Record
  loss : Stamp → Record
  status : ProductionStatus → Record
  end_of_data : Record

-- The record of a notification of the code.
abbrev pub notified : Notification → Record
notified (LossOfFrameSynchronization t) = loss (stamp t)
notified (ProductionStatusChange s) = status s
notified EndOfData = end_of_data

-- The octet of a quality and of a production status.
abbrev pub quality_octet : Quality → ℕ
quality_octet Good = 0
quality_octet Erred = 1
quality_octet Undetermined = 2

abbrev pub status_octet : ProductionStatus → ℕ
status_octet Running = 0
status_octet Interrupted = 1
status_octet Halted = 2

-- The two marks, and the types of the notifications.
abbrev pub frame_mark : ℕ
frame_mark = 0x4652

abbrev pub notification_mark : ℕ
notification_mark = 0x4E54

abbrev pub loss_type : ℕ
loss_type = 0

abbrev pub status_type : ℕ
status_type = 1

abbrev pub end_of_data_type : ℕ
end_of_data_type = 3

-- A frame before its data: mark, quality, time, data length.
abbrev pub frame_header : Quality → Stamp → ℕ → List ℕ
frame_header q t n = two_octets frame_mark ++ (quality_octet q ∷ (stamp_octets t ++ two_octets n))

-- A notification: mark, type, time, value.
abbrev pub notification_octets : ℕ → Stamp → ℕ → List ℕ
notification_octets type t value = two_octets notification_mark ++ (type ∷ (stamp_octets t ++ (value ∷ [])))

-- The octets that a record is written as.
unfoldable pub encode : Record → List ℕ
encode (frame q t d) = frame_header q t (length d) ++ d
encode (loss t) = notification_octets loss_type t 0
encode (status s) = notification_octets status_type zero_stamp (status_octet s)
encode end_of_data = notification_octets end_of_data_type zero_stamp 0

-- Times are within their limits, and a frame has one octet of data to as many as the limit allows.
abbrev pub WellFormed : Record → Type 0
WellFormed (frame q t d) = (timely t ≡ true) × (1 ≤ length d) × (length d ≤ data_limit)
WellFormed (loss t) = timely t ≡ true
WellFormed (status s) = Unit {0}
WellFormed end_of_data = Unit {0}

-- Whether a length is one that data may have.
abbrev pub data_length_allowed : ℕ → Bool
data_length_allowed n = nat_le 1 n && nat_le n data_limit

-- Writing a record to a buffer of so many octets: the record's length, or why it is not written.
abbrev pub writable : Record → Bool
writable (frame q t d) = data_length_allowed (length d)
writable (loss t) = true
writable (status s) = true
writable end_of_data = true

abbrev pub write_answer : ℕ → Record → Result ℕ WriteRefusal
write_answer room r =
    cond (writable r)
    (cond (nat_le (length (encode r)) room) (Ok (length (encode r))) (Err BufferTooShort))
    (Err DataLength)

-- The buffer afterwards: the record's octets at its front and its rest as it was; after a refusal all as it was.
abbrev pub buffer_after : List ℕ → Record → Result ℕ WriteRefusal → List ℕ
buffer_after out r (Ok n) = encode r ++ drop n out
buffer_after out r (Err e) = out
