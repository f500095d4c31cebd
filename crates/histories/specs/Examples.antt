-- Worked examples, evaluated: calls played over ideal queues, their answers, and a history with its ledger.
use Rattle.std.specs.Prelude.{◌≡◌, ◌&&◌, List, [], ◌∷◌, ◌++◌, map, ℕ, ◌*◌, nat_le, drop, Option, Some, None}
use Rattle.codec.specs.declared.record.Quality.{Quality}
use Rattle.codec.specs.declared.record.Quality.TheVariants.{Good, Erred}
use Rattle.codec.specs.declared.invocation.RequestedQuality.TheVariants.{GoodOnly, All}
use Rattle.codec.specs.Limits.{longest_record}
use Rattle.codec.specs.Times.{Stamp}
use Rattle.codec.specs.Records.{Record, frame, end_of_data, encode, quality_octet}
use Rattle.codec.specs.Invocations.{start, stop, bind, layout}
use Rattle.histories.specs.Queues.{Queue, Effect, keep, add, drop_oldest}
use Rattle.histories.specs.Sessions.{Settings, unbound}
use Rattle.histories.specs.Calls.{Call, acquire, move, tick, collect, invoke, Outcome, Answer, accepted, idle, quiet, sent, moved, passed_over, ended, collected, start_done, stop_done, bind_done, protocol_error}
use Rattle.histories.specs.Provider.{State, opened, outcome}
use Rattle.histories.specs.Ledger.{Event, Acceptance, ledger, acceptances, own_acceptances}
use Rattle.histories.specs.Histories.{History}
use Rattle.histories.specs.Statements.{records_of, due, Finished}

-- An ideal queue has room for every length from 1 to its largest, whatever it holds.
abbrev pub ideal : ℕ → List (List ℕ) → Queue
ideal n held = record { held = held; largest = n; room = λ k. nat_le 1 k && nat_le k n }

abbrev pub ideal_after : Queue → Effect → Queue
ideal_after q keep = q
ideal_after q (add octets) = ideal q.largest (q.held ++ octets ∷ [])
ideal_after q drop_oldest = ideal q.largest (drop 1 q.held)

abbrev pub state_after : State → Outcome → State
state_after s o = record { settings = s.settings; opening = s.opening; session = o.session; frames = ideal_after s.frames o.on_frames; transport = ideal_after s.transport o.on_transport }

-- Calls played one after the other: the answers; the state that they lead to; the events, the newest first, on top of earlier ones.
abbrev pub answers : State → List Call → List Answer
answers s [] = []
answers s (c ∷ cs) = (outcome s c).answer ∷ answers (state_after s (outcome s c)) cs

abbrev pub finally : State → List Call → State
finally s [] = s
finally s (c ∷ cs) = finally (state_after s (outcome s c)) cs

abbrev pub events : State → List Call → List Event → List Event
events s [] es = es
events s (c ∷ cs) es = events (state_after s (outcome s c)) cs (record { call = c; answer = (outcome s c).answer; copied = (outcome s c).copied } ∷ es)

-- A provider with N 2, L 3, version 1 and identifier ABC, over queues of the least widths.
abbrev pub name : List ℕ
name = 0x41 ∷ 0x42 ∷ 0x43 ∷ []

abbrev pub settings : Settings
settings = record { buffer_size = 2; latency_limit = 3; version = 1; identifier = name }

abbrev pub beginning : State
beginning = opened settings (ideal longest_record []) (ideal (2 * longest_record) [])

-- Frames by their day, and the calls that bring them; invocations by their layout.
abbrev pub on_day : ℕ → Stamp
on_day n = record { day = n; millisecond = 2; microsecond = 3 }

abbrev pub dated : Quality → ℕ → Record
dated q n = frame q (on_day n) (0xAA ∷ 0xBB ∷ [])

abbrev pub received : Quality → ℕ → Call
received q n = acquire (quality_octet q) (on_day n) (0xAA ∷ 0xBB ∷ [])

abbrev pub binding : Call
binding = invoke (layout (bind 7 1 name))

abbrev pub starting_good : Option Stamp → Call
starting_good until = invoke (layout (start 8 GoodOnly None until))

-- Frames timed at start and at stop are selected.
abbrev pub EndsAreSelected : Type 0
EndsAreSelected =
    answers beginning (binding ∷ received Good 1 ∷ received Good 3 ∷ invoke (layout (start 8 All (Some (on_day 1)) (Some (on_day 3)))) ∷ move ∷ move ∷ [])
    ≡ bind_done 7 1 ∷ accepted ∷ accepted ∷ start_done 8 ∷ moved ∷ moved ∷ []

-- N 2, good only, frames good, erred, good.
abbrev pub ErredIsPassedOver : Type 0
ErredIsPassedOver =
    answers beginning (binding ∷ received Good 1 ∷ received Erred 2 ∷ received Good 3 ∷ starting_good None ∷ move ∷ move ∷ move ∷ move ∷ move ∷ [])
    ≡ bind_done 7 1 ∷ accepted ∷ accepted ∷ accepted ∷ start_done 8 ∷ moved ∷ passed_over ∷ moved ∷ sent ∷ idle ∷ []

-- The same with stop at the third frame's time and a later fourth, which is held.
abbrev pub stopped_calls : List Call
stopped_calls = binding ∷ received Good 1 ∷ received Erred 2 ∷ received Good 3 ∷ received Good 4 ∷ starting_good (Some (on_day 3)) ∷ move ∷ move ∷ move ∷ move ∷ move ∷ move ∷ move ∷ []

pub record LateFrameIsHeld : Type 0 where
  pub answered : answers beginning stopped_calls ≡ bind_done 7 1 ∷ accepted ∷ accepted ∷ accepted ∷ accepted ∷ start_done 8 ∷ moved ∷ passed_over ∷ moved ∷ sent ∷ ended ∷ sent ∷ idle ∷ []
  pub held : (finally beginning stopped_calls).frames.held ≡ encode (dated Good 4) ∷ []

-- START when active, one record moved.
abbrev pub restarted_calls : List Call
restarted_calls = binding ∷ received Good 1 ∷ starting_good None ∷ move ∷ starting_good None ∷ []

pub record RestartDiscards : Type 0 where
  pub answered : answers beginning restarted_calls ≡ bind_done 7 1 ∷ accepted ∷ start_done 8 ∷ moved ∷ protocol_error 1 ∷ []
  pub unbound_again : (finally beginning restarted_calls).session.phase ≡ unbound

-- A history of three runs. The record of the first is lost by a protocol error. The second passes over an erred frame, ends at a late frame, though that is erred too, and its end of data stays in the transfer buffer over STOP and START. The third asks for all frames; its ticks send the end of data and then the frame, and it finishes.
abbrev pub worked_calls : List Call
worked_calls =
    binding ∷ received Good 1 ∷ starting_good None ∷ move ∷ starting_good None
    ∷ binding ∷ received Good 2 ∷ received Erred 3 ∷ received Good 4 ∷ received Erred 6 ∷ starting_good (Some (on_day 4)) ∷ move ∷ move ∷ move ∷ move ∷ move ∷ invoke (layout (stop 9))
    ∷ invoke (layout (start 10 All None None)) ∷ tick ∷ tick ∷ tick ∷ move ∷ move ∷ tick ∷ tick ∷ tick ∷ collect 60 ∷ collect 60 ∷ collect 60 ∷ []

abbrev pub worked_events : List Event
worked_events = events beginning worked_calls []

abbrev pub WorkedHistory : Type 0
WorkedHistory = History worked_events (finally beginning worked_calls)

abbrev pub numbers : List Acceptance → List ℕ
numbers all = map (λ (a : Acceptance). a.number) all

-- Its answers, and what its ledger has.
pub record WorkedLedger : Type 0 where
  pub answered : answers beginning worked_calls
      ≡ bind_done 7 1 ∷ accepted ∷ start_done 8 ∷ moved ∷ protocol_error 1
      ∷ bind_done 7 1 ∷ accepted ∷ accepted ∷ accepted ∷ accepted ∷ start_done 8 ∷ moved ∷ passed_over ∷ moved ∷ sent ∷ ended ∷ stop_done 9
      ∷ start_done 10 ∷ quiet ∷ quiet ∷ sent ∷ moved ∷ idle ∷ quiet ∷ quiet ∷ sent ∷ collected 30 ∷ collected 12 ∷ collected 15 ∷ []
  pub finished : Finished (ledger worked_events)
  pub third_run : (ledger worked_events).run.number ≡ 3
  pub due_is : numbers (due (ledger worked_events).run.selection (ledger worked_events).run.offered) ≡ 4 ∷ []
  pub own_are : numbers (own_acceptances 3 (ledger worked_events).handed) ≡ 4 ∷ []
  pub handed_are : numbers (acceptances (ledger worked_events).handed) ≡ 1 ∷ 3 ∷ 4 ∷ []
  pub passed_are : numbers (ledger worked_events).passed ≡ 2 ∷ []
  pub discarded_are : numbers (acceptances (ledger worked_events).discarded) ≡ 0 ∷ []
  pub pdus_say : records_of (ledger worked_events).pdus ≡ Some (dated Good 2 ∷ dated Good 4 ∷ end_of_data ∷ dated Erred 6 ∷ [])
