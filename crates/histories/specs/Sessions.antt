-- A provider's own part: what it was opened with, the phase of its association, what START asked for, and its transfer buffer.
use Rattle.std.specs.Prelude.{Bool, true, false, ◌&&◌, not, List, [], ◌∷◌, ◌++◌, ℕ, Option, Some, None}
use Rattle.std.specs.Ordering.{is_lt}
use Rattle.codec.specs.declared.record.Quality.{Quality}
use Rattle.codec.specs.declared.record.Quality.TheVariants.{Good, Erred, Undetermined}
use Rattle.codec.specs.declared.record.ProductionStatus.{ProductionStatus}
use Rattle.codec.specs.declared.invocation.RequestedQuality.{RequestedQuality}
use Rattle.codec.specs.declared.invocation.RequestedQuality.TheVariants.{GoodOnly, ErredOnly, All}
use Rattle.codec.specs.Times.{Stamp, compared}
use Rattle.codec.specs.Records.{Record, frame, loss, status, end_of_data}

-- What a provider is opened with: how many records make a full transfer buffer (N), how many active ticks a record may wait there (L), its version, and the identifier that a BIND has to bring.
pub record Settings : Type 0 where
  pub buffer_size : ℕ
  pub latency_limit : ℕ
  pub version : ℕ
  pub identifier : List ℕ

-- The phase of the association with the user. A closed provider never leaves that phase.
pub data Phase : Type 0 where
  unbound ready active closed : Phase

abbrev pub is_active : Phase → Bool
is_active unbound = false
is_active ready = false
is_active active = true
is_active closed = false

abbrev pub is_closed : Phase → Bool
is_closed unbound = false
is_closed ready = false
is_closed active = false
is_closed closed = true

-- What START asks for: frames of some quality, not before start, and not later than stop.
pub record Selection : Type 0 where
  pub quality : RequestedQuality
  pub start : Option Stamp
  pub stop : Option Stamp

abbrev pub requests : RequestedQuality → Quality → Bool
requests GoodOnly Good = true
requests GoodOnly Erred = false
requests GoodOnly Undetermined = false
requests ErredOnly Good = false
requests ErredOnly Erred = true
requests ErredOnly Undetermined = false
requests All q = true

-- The first time is before the second; of a time that is not given nothing is said.
abbrev pub before_start : Stamp → Option Stamp → Bool
before_start t None = false
before_start t (Some s) = is_lt (compared t s)

abbrev pub after_stop : Option Stamp → Stamp → Bool
after_stop None t = false
after_stop (Some s) t = is_lt (compared s t)

-- A frame is selected by its quality and its time; a notification always is.
unfoldable pub selected : Selection → Record → Bool
selected s (frame q t d) = requests s.quality q && not (before_start t s.start)
selected s (loss t) = true
selected s (status v) = true
selected s end_of_data = true

-- Only a frame, of any quality, is later than stop.
unfoldable pub late : Selection → Record → Bool
late s (frame q t d) = after_stop s.stop t
late s (loss t) = false
late s (status v) = false
late s end_of_data = false

-- Stop is not later than start, both being given.
abbrev pub empty_span : Option Stamp → Option Stamp → Bool
empty_span None until = false
empty_span (Some from) None = false
empty_span (Some from) (Some until) = not (is_lt (compared from until))

-- The state of the association: the last START's selection; whether end of data has been put in since (the end mark); the transfer buffer with the age of its contents in active ticks; the production status last accepted.
pub record Session : Type 0 where
  pub phase : Phase
  pub selection : Selection
  pub end_mark : Bool
  pub age : ℕ
  pub production : ProductionStatus
  pub buffer : List Record

-- A session with one part changed.
abbrev pub to_phase : Phase → Session → Session
to_phase p s = record { phase = p; selection = s.selection; end_mark = s.end_mark; age = s.age; production = s.production; buffer = s.buffer }

abbrev pub producing : ProductionStatus → Session → Session
producing v s = record { phase = s.phase; selection = s.selection; end_mark = s.end_mark; age = s.age; production = v; buffer = s.buffer }

abbrev pub aged : ℕ → Session → Session
aged n s = record { phase = s.phase; selection = s.selection; end_mark = s.end_mark; age = n; production = s.production; buffer = s.buffer }

abbrev pub holding : List Record → Session → Session
holding rs s = record { phase = s.phase; selection = s.selection; end_mark = s.end_mark; age = s.age; production = s.production; buffer = rs }

abbrev pub marked : Session → Session
marked s = record { phase = s.phase; selection = s.selection; end_mark = true; age = s.age; production = s.production; buffer = s.buffer }

abbrev pub selecting : Selection → Session → Session
selecting c s = record { phase = s.phase; selection = c; end_mark = false; age = s.age; production = s.production; buffer = s.buffer }

-- Only the entry of the first record sets age to 0.
abbrev pub age_at_entry : List Record → ℕ → ℕ
age_at_entry [] age = 0
age_at_entry (r ∷ rs) age = age

-- A record enters the transfer buffer, behind those that are there.
abbrev pub entered : Record → Session → Session
entered r s = holding (s.buffer ++ r ∷ []) (aged (age_at_entry s.buffer s.age) s)
