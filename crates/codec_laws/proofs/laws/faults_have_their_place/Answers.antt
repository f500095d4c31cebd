use Rattle.codec_laws.proofs.RecordFaults.{record_faults_have_their_place}
use Rattle.codec_laws.proofs.InvocationFaults.{request_faults_have_their_place}
use Rattle.codec_laws.proofs.laws.faults_have_their_place.Goals as goal

pub returns : goal.returns
returns c = record { records = record_faults_have_their_place; requests = request_faults_have_their_place }
