-- What holds in every history after every call.
use Rattle.std.specs.Prelude.{◌≡◌, ◌⊎◌, true, cond, List, [], ◌∷◌, ◌++◌, map, ℕ, suc, ◌<◌, ◌≤◌, ◌==◌, length, Option, Some, None, Result, Ok, Err}
use Rattle.std.specs.List.{AllByRecursion, filter}
use Rattle.codec.specs.declared.fault.Fault.{Fault}
use Rattle.codec.specs.Records.{Record, encode}
use Rattle.codec.specs.RecordReading.{records_in}
use Rattle.codec.specs.Invocations.{Request, abort}
use Rattle.codec.specs.InvocationReading.{request_in}
use Rattle.histories.specs.Sessions.{Phase, ready, active, Selection, selected, late}
use Rattle.histories.specs.Calls.{Call, tick, invoke, Answer, accepted, refused, idle, waiting, sent, moved, passed_over, ended, quiet, collected, start_done, stop_done, bind_done, unbind_done, abort_done, undecodable, protocol_error}
use Rattle.histories.specs.Invocations.{table, cell_protocol_error}
use Rattle.histories.specs.Provider.{State}
use Rattle.histories.specs.Ledger.{Event, Acceptance, Entry, Ledger, step, ledger, record_of, acceptances, own_acceptances, accepted_as}
use Rattle.histories.specs.Histories.{Step, History}

-- The records of PDUs, one PDU after the other, each read by the record reader's definition.
abbrev pub join_readings : Result (List Record) Fault → Option (List Record) → Option (List Record)
join_readings (Err fault) rest = None
join_readings (Ok rs) None = None
join_readings (Ok rs) (Some more) = Some (rs ++ more)

abbrev pub records_of : List (List ℕ) → Option (List Record)
records_of [] = Some []
records_of (pdu ∷ pdus) = join_readings (records_in pdu) (records_of pdus)

-- Each once, and in order of acceptance: the numbers rise, from n on.
abbrev pub RisesFrom : ℕ → List Acceptance → Type 0
RisesFrom n [] = Unit {0}
RisesFrom n (a ∷ rest) = (n ≤ a.number) × RisesFrom (suc a.number) rest

-- First statement. On the way to the collector nothing is lost, doubled, reordered or made up: the PDUs collected and those that wait read as the records handed over, in order; those among them that were accepted are the records accepted under their numbers, each once, in order of acceptance. And the transfer buffer's records are those pending.
pub record Delivered (l : Ledger) (s : State) : Type 0 where
  pub read : records_of (l.pdus ++ s.transport.held) ≡ Some (map record_of l.handed)
  pub genuine : AllByRecursion (λ (a : Acceptance). accepted_as l.received a.number ≡ Some a.value) (acceptances l.handed)
  pub in_order : RisesFrom 0 (acceptances l.handed)
  pub buffer : s.session.buffer ≡ map record_of l.pending

-- The due list of what a run was offered: cut before the first frame later than stop, unselected frames left out.
abbrev pub due : Selection → List Acceptance → List Acceptance
due c [] = []
due c (a ∷ rest) = cond (late c a.value) [] (cond (selected c a.value) (a ∷ due c rest) (due c rest))

-- A run has finished while it lasts, nothing is pending, and the end mark is set or nothing is untaken.
pub record Finished (l : Ledger) : Type 0 where
  pub lasts : l.phase ≡ active
  pub nothing_pending : l.pending ≡ []
  pub at_end : (l.end_mark ≡ true) ⊎ (l.untaken ≡ [])

-- Second statement. A run that has finished has handed over exactly its due list.
abbrev pub Complete : Ledger → Type 0
Complete l = Finished l → own_acceptances l.run.number l.handed ≡ due l.run.selection l.run.offered

-- Third statement. After a tick that finds the provider active and the transport empty, no record has waited for as many active ticks as the latency limit.
abbrev pub Punctual : State → Event → Ledger → Type 0
Punctual s e l' = e.call ≡ tick → s.session.phase ≡ active → s.transport.held ≡ [] → AllByRecursion (λ (x : Entry). x.ticks < s.settings.latency_limit) l'.pending

-- All accepted records by their fates: passed over, discarded, handed over, pending, untaken.
abbrev pub fates : Ledger → List Acceptance
fates l = l.passed ++ (acceptances l.discarded ++ (acceptances l.handed ++ (acceptances l.pending ++ l.untaken)))

-- Those that bear the number n.
abbrev pub bearing : ℕ → List Acceptance → List Acceptance
bearing n all = filter (λ (a : Acceptance). a.number == n) all

abbrev pub acceptance : ℕ → Option Record → List Acceptance
acceptance n None = []
acceptance n (Some r) = record { number = n; value = r } ∷ []

-- Every accepted record has exactly one fate: under each number there is, among all fates, just the record that was accepted under it.
abbrev pub OneFate : Ledger → Type 0
OneFate l = (n : ℕ) → bearing n (fates l) ≡ acceptance n (accepted_as l.received n)

abbrev pub octets_of : Acceptance → List ℕ
octets_of a = encode a.value

-- The frame buffer holds the untaken records, in order.
abbrev pub UntakenHeld : Ledger → State → Type 0
UntakenHeld l s = s.frames.held ≡ map octets_of l.untaken

-- In which phase, on which call and by which answer n accepted records are discarded.
pub data Discarding : Phase → Call → Answer → ℕ → Type 0 where
  by_abort : (p : Phase) (octets : List ℕ) (diagnostic n : ℕ) → request_in octets ≡ Ok (abort diagnostic) → Discarding p (invoke octets) (abort_done n) n
  by_protocol_error : (p : Phase) (octets : List ℕ) (request : Request) (n : ℕ) → request_in octets ≡ Ok request → table p request ≡ cell_protocol_error → Discarding p (invoke octets) (protocol_error n) n
  undecodable_ready : (octets : List ℕ) (fault : Fault) (n : ℕ) → request_in octets ≡ Err fault → Discarding ready (invoke octets) (undecodable fault n) n
  undecodable_active : (octets : List ℕ) (fault : Fault) (n : ℕ) → request_in octets ≡ Err fault → Discarding active (invoke octets) (undecodable fault n) n

-- How many accepted records an answer says are lost.
abbrev pub told : Answer → ℕ
told accepted = 0
told (refused n) = 0
told idle = 0
told waiting = 0
told sent = 0
told moved = 0
told passed_over = 0
told ended = 0
told quiet = 0
told (collected n) = 0
told (start_done id) = 0
told (stop_done id) = 0
told (bind_done id version) = 0
told (unbind_done id) = 0
told (abort_done n) = n
told (undecodable fault n) = n
told (protocol_error n) = n

-- A call tells of no loss and leaves the discarded as they are; or it is one of these, all that is pending is discarded, and the answer tells how many accepted records that were.
abbrev pub DiscardsRightly : Ledger → State → Event → Type 0
DiscardsRightly l s e =
    ((told e.answer ≡ 0) × ((step l e).discarded ≡ l.discarded))
    ⊎ (Discarding s.session.phase e.call e.answer (length (acceptances l.pending)) × ((step l e).discarded ≡ l.discarded ++ l.pending))

-- What holds after the opening and after every call.
pub record Sound (l : Ledger) (s : State) : Type 0 where
  pub delivered : Delivered l s
  pub complete : Complete l
  pub one_fate : OneFate l
  pub untaken_held : UntakenHeld l s

-- The claim on a call, made in state s with the ledger l, that leads to s'.
pub record Claim (l : Ledger) (s : State) (e : Event) (s' : State) : Type 0 where
  pub sound : Sound (step l e) s'
  pub punctual : Punctual s e (step l e)
  pub discards : DiscardsRightly l s e

-- What holds in every history of its ledger and its state; and of every call that goes on with a history.
abbrev pub Always : (Ledger → State → Type 0) → Type 0
Always P = (es : List Event) (s : State) → History es s → P (ledger es) s

abbrev pub EachCall : (Ledger → State → Event → State → Type 0) → Type 0
EachCall P = (es : List Event) (s s' : State) (e : Event) → History es s → Step s e s' → P (ledger es) s e s'

-- For the contract of one call: whatever history led to s goes on by the event e to s', and the claim holds.
abbrev pub Continues : State → Event → State → Type 0
Continues s e s' = (es : List Event) → History es s → History (e ∷ es) s' × Claim (ledger es) s e s'

abbrev pub StepsContinue : Type 0
StepsContinue = (s s' : State) (e : Event) → Step s e s' → Continues s e s'
