use Rattle.std.proofs.Common.{rules}
use Rattle.acceptance.proofs.account.PdusLineDisplay.fmt.Goals as goal

pub returns-clause-writes : goal.returns-clause-writes
returns-clause-writes g c = rw (← c.pdus_waiting-waiting.ensures) (search rules)
