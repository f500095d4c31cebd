-- What a script's first line asks.
use Rattle.std.specs.Prelude.{vec_items}
use Rattle.histories.specs.Sessions.{Settings}
use Rattle.provider.specs.Opening.{asked}
use Rattle.acceptance.specs.declared.opening.ScriptOpening.{ScriptOpening}

-- What a script's first line asks of the opening.
abbrev pub opening_said : ScriptOpening → Settings
opening_said o = asked o.buffer_size o.latency_limit o.version (vec_items o.identifier)
