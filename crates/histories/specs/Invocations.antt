-- What an invocation does: phase and operation together decide, by one table.
use Rattle.std.specs.Prelude.{Bool, true, false, cond, List, [], ℕ, nat_le, length, Option, Result, Ok, Err}
use Rattle.std.specs.List.{filter}
use Rattle.std.specs.Str.{bytes_eq}
use Rattle.codec.specs.declared.fault.Fault.{Fault}
use Rattle.codec.specs.declared.record.ProductionStatus.{ProductionStatus}
use Rattle.codec.specs.declared.record.ProductionStatus.TheVariants.{Running, Interrupted, Halted}
use Rattle.codec.specs.declared.invocation.RequestedQuality.{RequestedQuality}
use Rattle.codec.specs.declared.invocation.UnbindReason.{UnbindReason}
use Rattle.codec.specs.declared.invocation.UnbindReason.TheVariants.{End, Suspend, VersionNotSupported, Other}
use Rattle.codec.specs.Times.{Stamp}
use Rattle.codec.specs.Records.{Record, frame, loss, status, end_of_data}
use Rattle.codec.specs.Invocations.{Request, start, stop, bind, unbind, abort}
use Rattle.codec.specs.InvocationReading.{request_in}
use Rattle.histories.specs.Sessions.{Settings, Phase, unbound, ready, active, closed, Selection, empty_span, Session, to_phase, holding, selecting}
use Rattle.histories.specs.Calls.{Answer, start_done, stop_done, bind_done, unbind_done, abort_done, undecodable, protocol_error, Outcome, says, refuses}

-- A cell of the table: the phase that an operation leads to, if it is accepted; a protocol error (21); or another refusal's number.
pub data Cell : Type 0 where
  to : Phase → Cell
  cell_protocol_error : Cell
  refusal : ℕ → Cell

-- UNBIND with reason end closes the provider.
abbrev pub after_unbind : UnbindReason → Phase
after_unbind End = closed
after_unbind Suspend = unbound
after_unbind VersionNotSupported = unbound
after_unbind Other = unbound

-- The table.
unfoldable pub table : Phase → Request → Cell
table unbound (start id q from until) = refusal 26
table unbound (stop id) = refusal 26
table unbound (bind id version identifier) = to ready
table unbound (unbind id reason) = refusal 26
table unbound (abort diagnostic) = refusal 26
table ready (start id q from until) = to active
table ready (stop id) = cell_protocol_error
table ready (bind id version identifier) = cell_protocol_error
table ready (unbind id reason) = to (after_unbind reason)
table ready (abort diagnostic) = to unbound
table active (start id q from until) = cell_protocol_error
table active (stop id) = to ready
table active (bind id version identifier) = cell_protocol_error
table active (unbind id reason) = cell_protocol_error
table active (abort diagnostic) = to unbound
table closed request = refusal 4

-- Every record but end of data was accepted from the receiver.
abbrev pub is_accepted : Record → Bool
is_accepted (frame q t d) = true
is_accepted (loss t) = true
is_accepted (status v) = true
is_accepted end_of_data = false

-- How many accepted records a discard of the transfer buffer loses.
abbrev pub lost : Session → ℕ
lost s = length (filter is_accepted s.buffer)

-- The transfer buffer is discarded and the association ends; the answer tells the loss.
abbrev pub discard : Session → (ℕ → Answer) → Outcome
discard s answer = says (to_phase unbound (holding [] s)) (answer (lost s))

-- A BIND brings the provider's identifier, and its version or a higher one.
unfoldable pub bind_by : Settings → Session → Phase → ℕ → ℕ → List ℕ → Outcome
bind_by g s p id version identifier =
    cond (bytes_eq identifier g.identifier)
    (cond (nat_le g.version version) (says (to_phase p s) (bind_done id g.version)) (refuses s 23))
    (refuses s 22)

abbrev pub is_halted : ProductionStatus → Bool
is_halted Running = false
is_halted Interrupted = false
is_halted Halted = true

-- START sets the selection and clears the end mark; it keeps the transfer buffer.
unfoldable pub start_by : Session → Phase → ℕ → Selection → Outcome
start_by s p id selection =
    cond (is_halted s.production) (refuses s 25)
    (cond (empty_span selection.start selection.stop) (refuses s 24)
    (says (to_phase p (selecting selection s)) (start_done id)))

abbrev pub selection_of : RequestedQuality → Option Stamp → Option Stamp → Selection
selection_of q from until = record { quality = q; start = from; stop = until }

-- What an operation does for which the table has a next phase. STOP and UNBIND keep the transfer buffer.
abbrev pub performed : Settings → Session → Phase → Request → Outcome
performed g s p (start id q from until) = start_by s p id (selection_of q from until)
performed g s p (stop id) = says (to_phase p s) (stop_done id)
performed g s p (bind id version identifier) = bind_by g s p id version identifier
performed g s p (unbind id reason) = says (to_phase p s) (unbind_done id)
performed g s p (abort diagnostic) = discard s abort_done

abbrev pub by_cell : Settings → Session → Request → Cell → Outcome
by_cell g s request (to p) = performed g s p request
by_cell g s request cell_protocol_error = discard s protocol_error
by_cell g s request (refusal n) = refuses s n

-- Octets that are no invocation end the association while there is one.
abbrev pub by_fault : Session → Phase → Fault → Outcome
by_fault s unbound fault = says s (undecodable fault 0)
by_fault s ready fault = discard s (undecodable fault)
by_fault s active fault = discard s (undecodable fault)
by_fault s closed fault = refuses s 4

abbrev pub by_reading : Settings → Session → Result Request Fault → Outcome
by_reading g s (Ok request) = by_cell g s request (table s.phase request)
by_reading g s (Err fault) = by_fault s s.phase fault

-- An invocation, read from its octets.
unfoldable pub invoke_by : Settings → Session → List ℕ → Outcome
invoke_by g s octets = by_reading g s (request_in octets)
