-- How the provider and its queues stand to the ledger, and how a call's outcome is held to it.
use Rattle.std.proofs.Common.{◌≡◌, ℕ, ◌*◌, ◌<◌, ◌≤◌, List, ◌++◌, map, length, Some, sym, subst₂}
use mathlib.Core.Path.{subst₃}
use Rattle.std.specs.List.{AllByRecursion}
use Rattle.codec.specs.Limits.{longest_record}
use Rattle.codec.specs.Records.{Record}
use Rattle.histories.specs.Queues.{Queue, After}
use Rattle.histories.specs.Queues as queues
use Rattle.histories.specs.Sessions.{Settings, Session}
use Rattle.histories.specs.Calls.{Answer, Outcome, says}
use Rattle.histories.specs.Provider.{State, outcome}
use Rattle.histories.specs.Ledger.{Acceptance, Entry, Ledger, Event, record_of}
use Rattle.histories.specs.Histories.{Step}
use Rattle.histories.specs.Statements.{records_of, octets_of, Delivered}
use Rattle.histories.proofs.Entries.{WellAccepted, WellEntered}
use Rattle.histories.proofs.LedgerLaws.{Lawful, in_order, genuine}

abbrev pub Within : ℕ → Entry → Type 0
Within n e = e.ticks ≤ n

-- the frame buffer and the untaken
pub record Framed (held : List (List ℕ)) (untaken : List Acceptance) : Type 0 where
  pub are : held ≡ map octets_of untaken
  pub well : AllByRecursion WellAccepted untaken

-- the transfer buffer and the pending; below the limit the age bounds every entry's ticks
pub record Buffered (g : Settings) (buffer : List Record) (age : ℕ) (pending : List Entry) : Type 0 where
  pub are : buffer ≡ map record_of pending
  pub well : AllByRecursion WellEntered pending
  pub few : length buffer ≤ g.buffer_size
  pub ages : age < g.latency_limit → AllByRecursion (Within age) pending

-- PDUs, collected and waiting, and what is handed over
pub record Carried (pdus held : List (List ℕ)) (handed : List Entry) : Type 0 where
  pub are : records_of (pdus ++ held) ≡ Some (map record_of handed)
  pub well : AllByRecursion WellEntered handed

-- the settings and the transport
pub record Fitting (g : Settings) (transport : Queue) : Type 0 where
  pub some_size : 1 ≤ g.buffer_size
  pub some_limit : 1 ≤ g.latency_limit
  pub wide : g.buffer_size * longest_record ≤ transport.largest
  pub lawful : queues.Lawful transport

pub record Inv (l : Ledger) (s : State) : Type 0 where
  pub phase : s.session.phase ≡ l.phase
  pub mark : s.session.end_mark ≡ l.end_mark
  pub selection : s.session.selection ≡ l.run.selection
  pub framed : Framed s.frames.held l.untaken
  pub buffered : Buffered s.settings s.session.buffer s.session.age l.pending
  pub carried : Carried l.pdus s.transport.held l.handed
  pub fitting : Fitting s.settings s.transport
  pub lawful : Lawful l

abbrev pub placed : State → Session → Queue → Queue → State
placed s x frames transport = record { settings = s.settings; opening = s.opening; session = x; frames = frames; transport = transport }

-- P holds of the state that an outcome leads to, whatever the queues make of it
abbrev pub Leads : (State → Type 0) → State → Outcome → Type 0
Leads P s o = (frames transport : Queue) → After s.frames o.on_frames frames → After s.transport o.on_transport transport → P (placed s o.session frames transport)

-- so it holds after a step
pub led : (P : State → Type 0) (s s' : State) (e : Event) → Step s e s' → Leads P s (outcome s e.call) → P s'
led P s s' e st leads =
    subst₃ (λ (g : Settings) (n : ℕ) (x : Session). P (record { settings = g; opening = n; session = x; frames = s'.frames; transport = s'.transport }))
    (sym st.settings) (sym st.opening) (sym st.session) (leads s'.frames s'.transport st.frames st.transport)

-- an outcome that keeps both queues
pub keeping : (P : State → Type 0) (s : State) (x : Session) (a : Answer) → P (placed s x s.frames s.transport) → Leads P s (says x a)
keeping P s x a p frames transport f t = subst₂ (λ (y z : Queue). P (placed s x y z)) (sym f) (sym t) p

pub delivered : (l : Ledger) (s : State) → Inv l s → Delivered l s
delivered l s i = record {
  read = i.carried.are;
  genuine = genuine l i.lawful;
  in_order = in_order l i.lawful;
  buffer = i.buffered.are;
}
