use Rattle.codec_laws.proofs.TimesOrdered.{times_are_ordered}
use Rattle.codec_laws.proofs.laws.times_are_ordered.Goals as goal

pub returns : goal.returns
returns c = times_are_ordered
