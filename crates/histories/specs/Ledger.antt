-- The ledger of a history: fed each call's arguments and answer, and the octets that a collection copied, it keeps what became of every record.
use Rattle.std.specs.Prelude.{Bool, true, false, cond, List, [], ◌∷◌, ◌++◌, map, ℕ, zero, suc, ◌==◌, length, take, drop, Option, Some, None, Result, Ok, Err}
use Rattle.codec.specs.declared.fault.Fault.{Fault}
use Rattle.codec.specs.Records.{Record, end_of_data}
use Rattle.codec.specs.Invocations.{Request, start, stop, bind, unbind, abort}
use Rattle.codec.specs.InvocationReading.{request_in}
use Rattle.histories.specs.Sessions.{Phase, unbound, ready, active, closed, is_active, Selection}
use Rattle.histories.specs.Calls.{Call, acquire, note, move, tick, collect, invoke, argument, Answer, accepted, refused, idle, waiting, sent, moved, passed_over, ended, quiet, collected, start_done, stop_done, bind_done, unbind_done, abort_done, undecodable, protocol_error}
use Rattle.histories.specs.Invocations.{Cell, to, cell_protocol_error, refusal, table, selection_of}
use Rattle.histories.specs.Provider.{everything}

-- What the ledger is fed: a call, its answer, and the octets that it copied out.
pub record Event : Type 0 where
  pub call : Call
  pub answer : Answer
  pub copied : List ℕ

-- An accepted record, with its number in the order of acceptance, from 0. By its number it is told from an equal one.
pub record Acceptance : Type 0 where
  pub number : ℕ
  pub value : Record

-- What entered the transfer buffer: an accepted record or, without one, an end of data; the run whose move put it there; the active ticks that it has spent there.
pub record Entry : Type 0 where
  pub content : Option Acceptance
  pub run : ℕ
  pub ticks : ℕ

-- A run: its number, counted from 1; what its START asked for; and what it was offered, the records untaken at START and those accepted since.
pub record Run : Type 0 where
  pub number : ℕ
  pub selection : Selection
  pub offered : List Acceptance

-- The ledger: all records accepted so far; of them those passed over, untaken, pending, handed over and discarded; and the collected PDUs.
pub record Ledger : Type 0 where
  pub phase : Phase
  pub end_mark : Bool
  pub run : Run
  pub received : List Record
  pub passed : List Acceptance
  pub untaken : List Acceptance
  pub pending : List Entry
  pub handed : List Entry
  pub discarded : List Entry
  pub pdus : List (List ℕ)

abbrev pub blank : Ledger
blank = record { phase = unbound; end_mark = false; run = record { number = 0; selection = everything; offered = [] }; received = []; passed = []; untaken = []; pending = []; handed = []; discarded = []; pdus = [] }

-- A ledger with one part changed.
abbrev pub set_phase : Phase → Ledger → Ledger
set_phase x l = record { phase = x; end_mark = l.end_mark; run = l.run; received = l.received; passed = l.passed; untaken = l.untaken; pending = l.pending; handed = l.handed; discarded = l.discarded; pdus = l.pdus }

abbrev pub set_end_mark : Bool → Ledger → Ledger
set_end_mark x l = record { phase = l.phase; end_mark = x; run = l.run; received = l.received; passed = l.passed; untaken = l.untaken; pending = l.pending; handed = l.handed; discarded = l.discarded; pdus = l.pdus }

abbrev pub set_run : Run → Ledger → Ledger
set_run x l = record { phase = l.phase; end_mark = l.end_mark; run = x; received = l.received; passed = l.passed; untaken = l.untaken; pending = l.pending; handed = l.handed; discarded = l.discarded; pdus = l.pdus }

abbrev pub set_received : List Record → Ledger → Ledger
set_received x l = record { phase = l.phase; end_mark = l.end_mark; run = l.run; received = x; passed = l.passed; untaken = l.untaken; pending = l.pending; handed = l.handed; discarded = l.discarded; pdus = l.pdus }

abbrev pub set_passed : List Acceptance → Ledger → Ledger
set_passed x l = record { phase = l.phase; end_mark = l.end_mark; run = l.run; received = l.received; passed = x; untaken = l.untaken; pending = l.pending; handed = l.handed; discarded = l.discarded; pdus = l.pdus }

abbrev pub set_untaken : List Acceptance → Ledger → Ledger
set_untaken x l = record { phase = l.phase; end_mark = l.end_mark; run = l.run; received = l.received; passed = l.passed; untaken = x; pending = l.pending; handed = l.handed; discarded = l.discarded; pdus = l.pdus }

abbrev pub set_pending : List Entry → Ledger → Ledger
set_pending x l = record { phase = l.phase; end_mark = l.end_mark; run = l.run; received = l.received; passed = l.passed; untaken = l.untaken; pending = x; handed = l.handed; discarded = l.discarded; pdus = l.pdus }

abbrev pub set_handed : List Entry → Ledger → Ledger
set_handed x l = record { phase = l.phase; end_mark = l.end_mark; run = l.run; received = l.received; passed = l.passed; untaken = l.untaken; pending = l.pending; handed = x; discarded = l.discarded; pdus = l.pdus }

abbrev pub set_discarded : List Entry → Ledger → Ledger
set_discarded x l = record { phase = l.phase; end_mark = l.end_mark; run = l.run; received = l.received; passed = l.passed; untaken = l.untaken; pending = l.pending; handed = l.handed; discarded = x; pdus = l.pdus }

abbrev pub set_pdus : List (List ℕ) → Ledger → Ledger
set_pdus x l = record { phase = l.phase; end_mark = l.end_mark; run = l.run; received = l.received; passed = l.passed; untaken = l.untaken; pending = l.pending; handed = l.handed; discarded = l.discarded; pdus = x }

-- A record is accepted: it gets the next number, joins the end of the untaken, and is offered to the run.
abbrev pub offer : Acceptance → Run → Run
offer a r = record { number = r.number; selection = r.selection; offered = r.offered ++ a ∷ [] }

abbrev pub accept : Record → Ledger → Ledger
accept r l =
    let a : Acceptance = record { number = length l.received; value = r } in
    set_received (l.received ++ r ∷ []) (set_untaken (l.untaken ++ a ∷ []) (set_run (offer a l.run) l))

abbrev pub accept_argument : Option Record → Ledger → Ledger
accept_argument None l = l
accept_argument (Some r) l = accept r l

-- An entry made by a move of the run that lasts.
abbrev pub entry : Ledger → Option Acceptance → Entry
entry l content = record { content = content; run = l.run.number; ticks = 0 }

-- The oldest untaken record becomes pending.
abbrev pub take_oldest : Ledger → Ledger
take_oldest l = set_untaken (drop 1 l.untaken) (set_pending (l.pending ++ map (λ (a : Acceptance). entry l (Some a)) (take 1 l.untaken)) l)

-- The oldest untaken record is passed over.
abbrev pub pass_oldest : Ledger → Ledger
pass_oldest l = set_untaken (drop 1 l.untaken) (set_passed (l.passed ++ take 1 l.untaken) l)

-- An end of data becomes pending, and the end mark is set.
abbrev pub end_run : Ledger → Ledger
end_run l = set_end_mark true (set_pending (l.pending ++ entry l None ∷ []) l)

-- While active each pending record counts a tick more.
abbrev pub older : Entry → Entry
older e = record { content = e.content; run = e.run; ticks = suc e.ticks }

abbrev pub count_tick : Ledger → Ledger
count_tick l = set_pending (cond (is_active l.phase) (map older l.pending) l.pending) l

-- All pending is handed over, in order.
abbrev pub hand_over : Ledger → Ledger
hand_over l = set_handed (l.handed ++ l.pending) (set_pending [] l)

-- All pending is discarded.
abbrev pub discard_pending : Ledger → Ledger
discard_pending l = set_discarded (l.discarded ++ l.pending) (set_pending [] l)

-- The next run begins, with no end mark.
abbrev pub begin_run : Selection → Ledger → Ledger
begin_run c l = set_end_mark false (set_run (record { number = suc l.run.number; selection = c; offered = l.untaken }) l)

-- An accepted invocation: START begins a run, PEER-ABORT discards; the table gives the next phase.
abbrev pub perform_request : Request → Ledger → Ledger
perform_request (start id q from until) l = begin_run (selection_of q from until) l
perform_request (stop id) l = l
perform_request (bind id version identifier) l = l
perform_request (unbind id reason) l = l
perform_request (abort diagnostic) l = discard_pending l

abbrev pub enter_phase : Cell → Ledger → Ledger
enter_phase (to p) l = set_phase p l
enter_phase cell_protocol_error l = l
enter_phase (refusal n) l = l

abbrev pub follow_reading : Result Request Fault → Ledger → Ledger
follow_reading (Ok request) l = enter_phase (table l.phase request) (perform_request request l)
follow_reading (Err fault) l = l

abbrev pub follow_invocation : Call → Ledger → Ledger
follow_invocation (acquire q t d) l = l
follow_invocation (note type t v) l = l
follow_invocation move l = l
follow_invocation tick l = l
follow_invocation (collect n) l = l
follow_invocation (invoke octets) l = follow_reading (request_in octets) l

-- The association is lost.
abbrev pub lose_association : Ledger → Ledger
lose_association l = set_phase unbound (discard_pending l)

abbrev pub lose_if_bound : Phase → Ledger → Ledger
lose_if_bound unbound l = l
lose_if_bound ready l = lose_association l
lose_if_bound active l = lose_association l
lose_if_bound closed l = l

abbrev pub on_answer : Event → Answer → Ledger → Ledger
on_answer e accepted l = accept_argument (argument e.call) l
on_answer e (refused n) l = l
on_answer e idle l = l
on_answer e waiting l = l
on_answer e sent l = hand_over l
on_answer e moved l = take_oldest l
on_answer e passed_over l = pass_oldest l
on_answer e ended l = end_run l
on_answer e quiet l = l
on_answer e (collected n) l = set_pdus (l.pdus ++ e.copied ∷ []) l
on_answer e (start_done id) l = follow_invocation e.call l
on_answer e (stop_done id) l = follow_invocation e.call l
on_answer e (bind_done id version) l = follow_invocation e.call l
on_answer e (unbind_done id) l = follow_invocation e.call l
on_answer e (abort_done n) l = follow_invocation e.call l
on_answer e (undecodable fault n) l = lose_if_bound l.phase l
on_answer e (protocol_error n) l = lose_association l

abbrev pub on_call : Call → Ledger → Ledger
on_call (acquire q t d) l = l
on_call (note type t v) l = l
on_call move l = l
on_call tick l = count_tick l
on_call (collect n) l = l
on_call (invoke octets) l = l

-- One event: a tick is counted first, then the answer tells what became of records.
abbrev pub step : Ledger → Event → Ledger
step l e = on_answer e e.answer (on_call e.call l)

-- The ledger of the events of a history, the newest first.
abbrev pub ledger : List Event → Ledger
ledger [] = blank
ledger (e ∷ es) = step (ledger es) e

-- What is read off a ledger. The record that an entry stands for:
abbrev pub record_of_content : Option Acceptance → Record
record_of_content None = end_of_data
record_of_content (Some a) = a.value

abbrev pub record_of : Entry → Record
record_of e = record_of_content e.content

-- The accepted records among entries.
abbrev pub content_of : Option Acceptance → List Acceptance
content_of None = []
content_of (Some a) = a ∷ []

abbrev pub acceptances : List Entry → List Acceptance
acceptances [] = []
acceptances (e ∷ es) = content_of e.content ++ acceptances es

-- Those among them that the moves of run n put in.
abbrev pub own_acceptances : ℕ → List Entry → List Acceptance
own_acceptances n [] = []
own_acceptances n (e ∷ es) = cond (e.run == n) (content_of e.content) [] ++ own_acceptances n es

-- The record that was accepted under a number.
abbrev pub accepted_as : List Record → ℕ → Option Record
accepted_as [] n = None
accepted_as (r ∷ rs) zero = Some r
accepted_as (r ∷ rs) (suc n) = accepted_as rs n
