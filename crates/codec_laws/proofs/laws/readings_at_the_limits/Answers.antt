use Rattle.codec_laws.proofs.Readings.{readings_at_the_limits}
use Rattle.codec_laws.proofs.laws.readings_at_the_limits.Goals as goal

pub returns : goal.returns
returns c = readings_at_the_limits
