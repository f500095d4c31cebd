-- The code's session, as the provider's definition has it.
use Rattle.std.specs.Prelude.{◌<◌}
use Rattle.codec.specs.Invocations.{named}
use Rattle.histories.specs.Sessions as sessions
use Rattle.provider.specs.Selections.{phase_of, held_selection}
use Rattle.provider.specs.Held.{buffer_records}
use Rattle.provider.specs.declared.settings.Settings.{Settings}
use Rattle.provider.specs.declared.session.Session.{Session}

abbrev pub settings_of : Settings → sessions.Settings
settings_of s = record { buffer_size = s.buffer_size; latency_limit = s.latency_limit; version = s.version; identifier = named s.identifier }

abbrev pub session_of : Session → sessions.Session
session_of s = record {
  phase = phase_of s.phase;
  selection = held_selection s.selection;
  end_mark = s.end_mark;
  age = s.age;
  production = s.production;
  buffer = buffer_records s.buffer;
}

-- The transfer buffer has room for one record more.
abbrev pub HasRoom : Session → Type 0
HasRoom s = s.buffer.count < s.settings.buffer_size
