-- The lines of a dump: what is written of times, faults, records and requests.
use Rattle.std.specs.Prelude.{ℕ, zero, suc, ◌+◌, cond, List, [], ◌∷◌, ◌++◌, length, Some, None, Ok, Err, codes, decimal, Option, Result, nat_le}
use Rattle.script.specs.Hexadecimal.{hexadecimal_text}
use Rattle.codec.specs.Faults.{letter_of}
use Rattle.codec.specs.Times.{Stamp}
use Rattle.codec.specs.Records.{Record, encode, quality_octet}
use Rattle.codec.specs.RecordReading.{record_at, content_of, Content, frame_content, loss_content, status_content, end_content}
use Rattle.codec.specs.Invocations.{Request, start, stop, bind, unbind, abort, requested_quality_octet, reason_octet}
use Rattle.codec.specs.declared.fault.Fault.{Fault}
use Rattle.codec.specs.declared.record.ProductionStatus.{ProductionStatus}
use Rattle.codec.specs.declared.record.ProductionStatus.TheVariants.{Running, Interrupted, Halted}

-- A fault by its letter and its place.
abbrev pub fault_line : Fault → List ℕ
fault_line f = codes "fault " ++ ((letter_of f.kind ∷ []) ++ (codes " " ++ (decimal f.place ++ codes "\n")))

-- A time by its three numbers, and one that may be absent.
abbrev pub time_text : Stamp → List ℕ
time_text t = decimal t.day ++ (codes " " ++ (decimal t.millisecond ++ (codes " " ++ decimal t.microsecond)))

abbrev pub optional_time_text : Option Stamp → List ℕ
optional_time_text (Some t) = time_text t
optional_time_text None = codes "none"

-- A production status in words.
abbrev pub status_text : ProductionStatus → List ℕ
status_text Running = codes "running"
status_text Interrupted = codes "interrupted"
status_text Halted = codes "halted"

-- What a record says.
abbrev pub content_text : Content → List ℕ
content_text (frame_content q t n) =
    codes "frame quality " ++ (decimal (quality_octet q) ++ (codes " time " ++ (time_text t ++ (codes " data " ++ decimal n))))
content_text (loss_content t) = codes "loss of frame synchronization time " ++ time_text t
content_text (status_content s) = codes "production status " ++ status_text s
content_text end_content = codes "end of data"

-- The line of a record at a place.
abbrev pub record_line : ℕ → Content → List ℕ
record_line place c = decimal place ++ (codes " " ++ (content_text c ++ codes "\n"))

-- The line of a record at a place that was read: what it says, or its fault.
abbrev pub part_line : ℕ → Result Content Fault → List ℕ
part_line place (Ok c) = record_line place c
part_line place (Err f) = fault_line f

-- The line of a request.
abbrev pub request_line : Request → List ℕ
request_line (start i q from until) =
    codes "START id " ++ (decimal i ++ (codes " quality " ++ (decimal (requested_quality_octet q)
    ++ (codes " start " ++ (optional_time_text from ++ (codes " stop " ++ (optional_time_text until ++ codes "\n")))))))
request_line (stop i) = codes "STOP id " ++ (decimal i ++ codes "\n")
request_line (bind i v name) =
    codes "BIND id " ++ (decimal i ++ (codes " version " ++ (decimal v ++ (codes " identifier " ++ (hexadecimal_text name ++ codes "\n")))))
request_line (unbind i reason) = codes "UNBIND id " ++ (decimal i ++ (codes " reason " ++ (decimal (reason_octet reason) ++ codes "\n")))
request_line (abort d) = codes "PEER-ABORT diagnostic " ++ (decimal d ++ codes "\n")

-- The line of an invocation that was read: what it asks, or its fault.
abbrev pub invocation_line : Result Request Fault → List ℕ
invocation_line (Ok r) = request_line r
invocation_line (Err f) = fault_line f

-- The lines from a record on that was read at a place: its own and those behind it, or its fault.
abbrev pub lines_behind : Result Record Fault → ℕ → (Record → List ℕ) → List ℕ
lines_behind (Ok r) at rest = record_line at (content_of r) ++ rest r
lines_behind (Err f) at rest = fault_line f

-- The lines of a PDU from a place on, at most n of them before the last: one for each record, and then the end or the fault.
abbrev pub lines_from : ℕ → List ℕ → ℕ → List ℕ
lines_from zero pdu at = codes "end\n"
lines_from (suc n) pdu at =
    cond (nat_le (length pdu) at) (codes "end\n") (lines_behind (record_at pdu at) at (λ r. lines_from n pdu (at + length (encode r))))

-- All the lines of a PDU; it has no more records than octets.
abbrev pub pdu_lines : List ℕ → List ℕ
pdu_lines pdu = lines_from (length pdu) pdu 0
