-- The provider of complete online delivery: opening, acquisition, note and move; and so what each of its calls does.
use Rattle.std.specs.Prelude.{Bool, true, false, cond, ◌&&◌, ◌||◌, List, [], ◌∷◌, ℕ, zero, suc, ◌*◌, ◌==◌, nat_le, length, Option, Some, None}
use Rattle.codec.specs.declared.record.ProductionStatus.TheVariants.{Running}
use Rattle.codec.specs.declared.invocation.RequestedQuality.TheVariants.{All}
use Rattle.codec.specs.Times.{timely}
use Rattle.codec.specs.Records.{Record, frame, loss, status, end_of_data, encode, data_length_allowed}
use Rattle.codec.specs.RecordReading.{one_record}
use Rattle.codec.specs.Limits.{longest_record}
use Rattle.codec.specs.Invocations.{identifier_length_allowed}
use Rattle.histories.specs.Queues.{Queue, keep, add, drop_oldest}
use Rattle.histories.specs.Sessions.{Settings, Phase, unbound, closed, is_active, is_closed, Selection, selected, late, Session, producing, marked, entered}
use Rattle.histories.specs.Calls.{Call, acquire, note, move, tick, collect, invoke, argument, Outcome, says, refuses, accepted, idle, moved, passed_over, ended}
use Rattle.histories.specs.Delivery.{send, is_filled, tick_by, collect_by}
use Rattle.histories.specs.Invocations.{invoke_by}

-- The state of a provider: its settings and the number of its opening, which never change; its session; its two queues.
pub record State : Type 0 where
  pub settings : Settings
  pub opening : ℕ
  pub session : Session
  pub frames : Queue
  pub transport : Queue

-- The limits of the settings.
abbrev pub most_records : ℕ
most_records = 8

abbrev pub longest_latency : ℕ
longest_latency = 3600

abbrev pub highest_version : ℕ
highest_version = 255

abbrev pub up_to : ℕ → ℕ → Bool
up_to limit n = nat_le 1 n && nat_le n limit

abbrev pub in_range : Settings → Bool
in_range g =
    up_to most_records g.buffer_size
    && (up_to longest_latency g.latency_limit
    && (up_to highest_version g.version && identifier_length_allowed (length g.identifier)))

abbrev pub is_empty : Queue → Bool
is_empty q = length q.held == 0

-- The number of an opening: 1 a setting out of range, 2 a queue not empty, 3 a queue too narrow, 0 accepted.
unfoldable pub opening_number : Settings → Queue → Queue → ℕ
opening_number g frames transport =
    cond (in_range g)
    (cond (is_empty frames && is_empty transport)
    (cond (nat_le longest_record frames.largest && nat_le (g.buffer_size * longest_record) transport.largest) 0 3)
    2)
    1

-- A refused provider keeps no settings; the least ones stand in their place, and no call ever looks at them.
abbrev pub least_settings : Settings
least_settings = record { buffer_size = 1; latency_limit = 1; version = 1; identifier = 0 ∷ 0 ∷ 0 ∷ [] }

abbrev pub everything : Selection
everything = record { quality = All; start = None; stop = None }

-- The session that an opening begins: production running, nothing in the transfer buffer.
abbrev pub fresh : Phase → Session
fresh p = record { phase = p; selection = everything; end_mark = false; age = 0; production = Running; buffer = [] }

-- Opening always makes a provider: one that is accepted is unbound, one that is refused is closed.
abbrev pub opened_as : ℕ → Settings → Queue → Queue → State
opened_as zero g frames transport = record { settings = g; opening = 0; session = fresh unbound; frames = frames; transport = transport }
opened_as (suc n) g frames transport = record { settings = least_settings; opening = suc n; session = fresh closed; frames = frames; transport = transport }

abbrev pub opened : Settings → Queue → Queue → State
opened g frames transport = opened_as (opening_number g frames transport) g frames transport

-- What is checked of a record before it is accepted: its time, and the length of its data.
abbrev pub is_timely : Record → Bool
is_timely (frame q t d) = timely t
is_timely (loss t) = timely t
is_timely (status v) = true
is_timely end_of_data = true

abbrev pub has_data : Record → Bool
has_data (frame q t d) = data_length_allowed (length d)
has_data (loss t) = true
has_data (status v) = true
has_data end_of_data = true

-- An accepted status change sets the production status.
abbrev pub produced : Record → Session → Session
produced (frame q t d) s = s
produced (loss t) s = s
produced (status v) s = producing v s
produced end_of_data s = s

unfoldable pub admit : Session → Queue → Record → Outcome
admit s frames r =
    cond (frames.room (length (encode r)))
    (record { answer = accepted; copied = []; session = produced r s; on_frames = add (encode r); on_transport = keep })
    (refuses s 13)

-- The record of the arguments, or the number that refuses arguments that mean none.
abbrev pub receive : Session → Queue → ℕ → Option Record → Outcome
receive s frames n None = refuses s n
receive s frames n (Some r) = cond (is_timely r) (cond (has_data r) (admit s frames r) (refuses s 12)) (refuses s 11)

-- Acquisition and note: one record more in the frame buffer.
unfoldable pub receive_by : Session → Queue → ℕ → Option Record → Outcome
receive_by s frames n r = cond (is_closed s.phase) (refuses s 4) (receive s frames n r)

abbrev pub oldest : List (List ℕ) → Option Record
oldest [] = None
oldest (octets ∷ rest) = one_record octets

-- A frame later than stop stays in the frame buffer; end of data enters in its place, and the end mark is set.
abbrev pub ending : Session → Outcome
ending s = record { answer = ended; copied = []; session = marked (entered end_of_data s); on_frames = keep; on_transport = keep }

-- Any other record leaves the frame buffer; it enters the transfer buffer, or is passed over.
abbrev pub taking : Session → Record → Outcome
taking s r = record { answer = moved; copied = []; session = entered r s; on_frames = drop_oldest; on_transport = keep }

abbrev pub passing : Session → Outcome
passing s = record { answer = passed_over; copied = []; session = s; on_frames = drop_oldest; on_transport = keep }

-- What a move asks of a record: whether it ends the run, and then whether it is to be sent.
abbrev pub ends_run : Session → Record → Bool
ends_run s r = late s.selection r

abbrev pub is_taken : Session → Record → Bool
is_taken s r = selected s.selection r

-- What a move does with the oldest record of the frame buffer. Lateness comes first, whatever the frame's quality.
unfoldable pub move_record : Session → Option Record → Outcome
move_record s None = says s idle
move_record s (Some r) = cond (ends_run s r) (ending s) (cond (is_taken s r) (taking s r) (passing s))

-- The transfer buffer is sent when it is full, and what it has when the end mark is set.
abbrev pub must_send : Settings → Session → Bool
must_send g s = (length s.buffer == g.buffer_size) || (s.end_mark && is_filled s.buffer)

-- A move: send what must be sent, else look at the oldest record, unless the end mark is set.
unfoldable pub move_by : State → Outcome
move_by s =
    cond (is_active s.session.phase)
    (cond (must_send s.settings s.session) (send s.session s.transport)
    (cond s.session.end_mark (says s.session idle) (move_record s.session (oldest s.frames.held))))
    (says s.session idle)

-- What each call comes to.
abbrev pub outcome : State → Call → Outcome
outcome s (acquire q t d) = receive_by s.session s.frames 10 (argument (acquire q t d))
outcome s (note type t v) = receive_by s.session s.frames 14 (argument (note type t v))
outcome s move = move_by s
outcome s tick = tick_by s.settings s.session s.transport
outcome s (collect n) = collect_by s.session n s.transport.held
outcome s (invoke octets) = invoke_by s.settings s.session octets
