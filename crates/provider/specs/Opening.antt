-- What an opening asks for.
use Rattle.std.specs.Prelude.{◌≡◌, ℕ, zero, suc, ◌*◌, cond, ◌&&◌, List, [], Ok, Err, Result, nat_le}
use Rattle.codec.specs.Limits.{longest_record}
use Rattle.histories.specs.Queues.{Queue}
use Rattle.histories.specs.Provider.{State, is_empty, least_settings}
use Rattle.histories.specs.Ledger.{blank}
use Rattle.histories.specs.Histories.{History}
use Rattle.histories.specs.Statements.{Sound}
use Rattle.histories.specs.Sessions as sessions
use Rattle.provider.specs.Sessions.{settings_of}
use Rattle.provider.specs.declared.answer.OpeningRefusal.{OpeningRefusal}
use Rattle.provider.specs.declared.settings.Opening.{Opening}
use Rattle.provider.specs.declared.settings.Settings.{Settings}

abbrev pub asked : ℕ → ℕ → ℕ → List ℕ → sessions.Settings
asked n l v name = record { buffer_size = n; latency_limit = l; version = v; identifier = name }

abbrev pub opening_asked : Opening → sessions.Settings
opening_asked o = asked o.buffer_size o.latency_limit o.version o.identifier.now

abbrev pub settings_or : Result Settings OpeningRefusal → Result sessions.Settings OpeningRefusal
settings_or (Ok s) = Ok (settings_of s)
settings_or (Err e) = Err e

-- The settings of a provider: those asked for, or the least where its opening was refused.
abbrev pub kept_settings : Result Settings OpeningRefusal → sessions.Settings
kept_settings (Ok s) = settings_of s
kept_settings (Err e) = least_settings

-- A provider whose opening was accepted begins unbound, any other closed.
abbrev pub first_phase : ℕ → sessions.Phase
first_phase zero = sessions.unbound
first_phase (suc n) = sessions.closed

-- The number of an opening whose settings are in range.
abbrev pub queues_number : ℕ → Queue → Queue → ℕ
queues_number n frames transport =
    cond (is_empty frames && is_empty transport)
    (cond (nat_le longest_record frames.largest && nat_le (n * longest_record) transport.largest) 0 3)
    2

-- An accepted opening begins a history.
abbrev pub Begins : State → Type 0
Begins s = s.opening ≡ 0 → History [] s × Sound blank s
