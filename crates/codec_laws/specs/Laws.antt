-- The laws of times, records and invocations, in words of the subject.
use Rattle.std.specs.Prelude.{◌≡◌, ℕ, ◌<◌, ◌≤◌, ◌⊎◌, List, [], ◌∷◌, length, take, Ok, Err}
use Rattle.std.specs.List.{flat_map, AllByRecursion}
use Rattle.codec.specs.Octets.{Octets}
use Rattle.std.specs.Ordering.{ordering_reverse}
use Rattle.std.specs.declared.cmp.Ordering.TheVariants.{Less, Equal, Greater}
use Rattle.codec.specs.Times.{Stamp, compared, checked_stamp, stamp_octets}
use Rattle.codec.specs.Fields.{fault}
use Rattle.codec.specs.Records.{Record, frame, end_of_data, encode, WellFormed, write_answer}
use Rattle.codec.specs.RecordReading.{records_in}
use Rattle.codec.specs.Reader.{handed_out, parts_or}
use Rattle.codec.specs.Invocations.{Request, layout, WellFormedRequest}
use Rattle.codec.specs.InvocationReading.{request_in}
use Rattle.codec.specs.declared.fault.Fault.{Fault}
use Rattle.codec.specs.declared.fault.FaultKind.{FaultKind}
use Rattle.codec.specs.declared.fault.FaultKind.TheVariants.{Short, Mark, Value, Extra}
use Rattle.codec.specs.declared.record.Quality.{Quality}
use Rattle.codec.specs.declared.record.Quality.TheVariants.{Good}
use Rattle.codec.specs.declared.record.WriteRefusal.TheVariants.{DataLength}
use Rattle.codec.specs.declared.time.TimeField.TheVariants.{Millisecond, Microsecond}

-- Reading the joined octets of well-formed records gives those records.
abbrev pub RecordsReadBack : Type 0
RecordsReadBack = (rs : List Record) → AllByRecursion WellFormed rs → records_in (flat_map encode rs) ≡ Ok rs

-- What reads as records is well formed, and the joined octets of the records are the input.
abbrev pub RecordsWriteBack : Type 0
RecordsWriteBack = (xs : List ℕ) (rs : List Record) → Octets xs → records_in xs ≡ Ok rs → AllByRecursion WellFormed rs × (flat_map encode rs ≡ xs)

-- The reader hands out exactly the records of the PDU, each as its octets at its place, or stops at the fault of the PDU.
abbrev pub ReaderHandsOutRecords : Type 0
ReaderHandsOutRecords = (pdu : List ℕ) → handed_out (length pdu) pdu 0 ≡ parts_or 0 (records_in pdu)

-- Reading the layout of a well-formed request gives that request.
abbrev pub RequestsReadBack : Type 0
RequestsReadBack = (r : Request) → WellFormedRequest r → request_in (layout r) ≡ Ok r

-- Octets that read as a request are its layout, and the request is well formed.
abbrev pub RequestsWriteBack : Type 0
RequestsWriteBack = (xs : List ℕ) (r : Request) → Octets xs → request_in xs ≡ Ok r → WellFormedRequest r × (layout r ≡ xs)

-- Any two times compare; swapped they give the opposite; the order is transitive; two that compare the same are
-- the same, and have the same octets.
pub record TimesAreOrdered : Type 0 where
  pub total : (a b : Stamp) → (compared a b ≡ Less) ⊎ ((compared a b ≡ Equal) ⊎ (compared a b ≡ Greater))
  pub swapped : (a b : Stamp) → compared b a ≡ ordering_reverse (compared a b)
  pub transitive : (a b c : Stamp) → compared a b ≡ Less → compared b c ≡ Less → compared a c ≡ Less
  pub same : (a b : Stamp) → compared a b ≡ Equal → a ≡ b
  pub octets : (a b : Stamp) → compared a b ≡ Equal → stamp_octets a ≡ stamp_octets b

-- Where a fault of a PDU lies, and what stands before it. Too short: at the end. A wrong mark: behind records that
-- read well. A wrong value: before its field the octets have no fault but that they end there.
abbrev pub FaultOfRecords : List ℕ → FaultKind → ℕ → Type 0
FaultOfRecords xs Short place = place ≡ length xs
FaultOfRecords xs Mark place = (place < length xs) × ((rs : List Record) × (records_in (take place xs) ≡ Ok rs))
FaultOfRecords xs Value place = (place < length xs) × (records_in (take place xs) ≡ Err (fault Short place))
FaultOfRecords xs Extra place = ⊥

abbrev pub RecordFaultsHaveTheirPlace : Type 0
RecordFaultsHaveTheirPlace = (xs : List ℕ) (f : Fault) → records_in xs ≡ Err f → FaultOfRecords xs f.kind f.place

-- The same of an invocation; octets left over stand behind octets that read as a request.
abbrev pub FaultOfRequest : List ℕ → FaultKind → ℕ → Type 0
FaultOfRequest xs Short place = place ≡ length xs
FaultOfRequest xs Mark place = (place < length xs) × (request_in (take place xs) ≡ Err (fault Short place))
FaultOfRequest xs Value place = (place < length xs) × (request_in (take place xs) ≡ Err (fault Short place))
FaultOfRequest xs Extra place = (place < length xs) × ((r : Request) × (request_in (take place xs) ≡ Ok r))

abbrev pub RequestFaultsHaveTheirPlace : Type 0
RequestFaultsHaveTheirPlace = (xs : List ℕ) (f : Fault) → request_in xs ≡ Err f → FaultOfRequest xs f.kind f.place

-- The formats at their limits, in octets and numbers.
pub record ReadingsAtTheLimits : Type 0 where
  pub short_frame : encode (frame Good (record { day = 1; millisecond = 2; microsecond = 3 }) (0xAA ∷ 0xBB ∷ []))
      ≡ 0x46 ∷ 0x52 ∷ 0x00 ∷ 0x00 ∷ 0x01 ∷ 0x00 ∷ 0x00 ∷ 0x00 ∷ 0x02 ∷ 0x00 ∷ 0x03 ∷ 0x00 ∷ 0x02 ∷ 0xAA ∷ 0xBB ∷ []
  pub end_of_data_octets : encode end_of_data ≡ 0x4E ∷ 0x54 ∷ 0x03 ∷ 0 ∷ 0 ∷ 0 ∷ 0 ∷ 0 ∷ 0 ∷ 0 ∷ 0 ∷ 0 ∷ []
  pub last_time : (d : ℕ) → checked_stamp d 86399999 999 ≡ Ok (record { day = d; millisecond = 86399999; microsecond = 999 })
  pub millisecond_beyond : (d us : ℕ) → checked_stamp d 86400000 us ≡ Err Millisecond
  pub microsecond_beyond : (d : ℕ) → checked_stamp d 86399999 1000 ≡ Err Microsecond
  pub longest_data : (q : Quality) (t : Stamp) (d : List ℕ) → length d ≡ 2048 → (room : ℕ) → 2061 ≤ room → write_answer room (frame q t d) ≡ Ok 2061
  pub no_data : (q : Quality) (t : Stamp) (room : ℕ) → write_answer room (frame q t []) ≡ Err DataLength
  pub data_beyond : (q : Quality) (t : Stamp) (d : List ℕ) → length d ≡ 2049 → (room : ℕ) → write_answer room (frame q t d) ≡ Err DataLength
