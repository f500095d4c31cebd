use Rattle.codec_laws.proofs.InvocationsWritten.{request_written}
use Rattle.codec_laws.proofs.InvocationsRead.{request_read}
use Rattle.codec_laws.proofs.laws.invocations_round_trip.Goals as goal

pub returns : goal.returns
returns c = record { reads = request_written; writes = request_read }
