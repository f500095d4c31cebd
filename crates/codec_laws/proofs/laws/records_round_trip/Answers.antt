use Rattle.codec_laws.proofs.RecordsJoined.{records_written, records_read}
use Rattle.codec_laws.proofs.laws.records_round_trip.Goals as goal

pub returns : goal.returns
returns c = record { reads = records_written; writes = records_read }
