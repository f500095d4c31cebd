-- The calls of a provider, their answers, and what a call comes to.
use Rattle.std.specs.Prelude.{ℕ, zero, suc, List, [], Option, Some, None}
use Rattle.codec.specs.declared.fault.Fault.{Fault}
use Rattle.codec.specs.declared.record.Quality.{Quality}
use Rattle.codec.specs.declared.record.ProductionStatus.{ProductionStatus}
use Rattle.codec.specs.Times.{Stamp}
use Rattle.codec.specs.Records.{Record, frame, loss, status}
use Rattle.codec.specs.RecordReading.{quality_of, status_of}
use Rattle.histories.specs.Queues.{Effect, keep}
use Rattle.histories.specs.Sessions.{Session}

-- An acquisition has the numbers of a quality and a time, unchecked, and data; a note has a type, a time and a status; a collection the length of the caller's buffer; an invocation its octets.
pub data Call : Type 0 where
  acquire : ℕ → Stamp → List ℕ → Call
  note : ℕ → Stamp → ℕ → Call
  move : Call
  tick : Call
  collect : ℕ → Call
  invoke : List ℕ → Call

-- A refusal has its number: 4 closed; 10 quality, 11 time, 12 data length, 13 no room in the frame buffer, 14 note type or status; 22 access denied, 23 version not supported, 24 invalid stop time, 25 out of service, 26 no association; 30 nothing waits, 34 caller's buffer too short.
-- Two more refusals end an association and tell how many accepted records are lost: 20 (undecodable, with the reader's fault) and 21 (protocol error); so does the answer to PEER-ABORT. Other invocations that are accepted answer their invoke-ID, BIND the provider's version too.
pub data Answer : Type 0 where
  accepted : Answer
  refused : ℕ → Answer
  idle waiting sent moved passed_over ended quiet : Answer
  collected : ℕ → Answer
  start_done : ℕ → Answer
  stop_done : ℕ → Answer
  bind_done : ℕ → ℕ → Answer
  unbind_done : ℕ → Answer
  abort_done : ℕ → Answer
  undecodable : Fault → ℕ → Answer
  protocol_error : ℕ → Answer

-- What a call comes to: its answer, the octets that it copies to the front of the caller's buffer, the session afterwards, and what it does to the frame buffer and to the transport.
pub record Outcome : Type 0 where
  pub answer : Answer
  pub copied : List ℕ
  pub session : Session
  pub on_frames : Effect
  pub on_transport : Effect

-- An outcome that touches neither queue.
abbrev pub says : Session → Answer → Outcome
says s a = record { answer = a; copied = []; session = s; on_frames = keep; on_transport = keep }

-- A refusal changes nothing.
abbrev pub refuses : Session → ℕ → Outcome
refuses s n = says s (refused n)

abbrev pub as_frame : Option Quality → Stamp → List ℕ → Option Record
as_frame None t d = None
as_frame (Some q) t d = Some (frame q t d)

abbrev pub as_status : Option ProductionStatus → Option Record
as_status None = None
as_status (Some v) = Some (status v)

-- A note of type 0 is a loss of frame synchronization, whatever its status; one of type 1 a change of production status, whatever its time.
abbrev pub as_note : ℕ → Stamp → ℕ → Option Record
as_note zero t v = Some (loss t)
as_note (suc zero) t v = as_status (status_of v)
as_note (suc (suc type)) t v = None

-- The record of a call's arguments, if their quality, or their type and status, mean something.
abbrev pub argument : Call → Option Record
argument (acquire q t d) = as_frame (quality_of q) t d
argument (note type t v) = as_note type t v
argument move = None
argument tick = None
argument (collect n) = None
argument (invoke octets) = None
