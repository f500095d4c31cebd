use Rattle.codec_laws.proofs.HandedOut.{reader_hands_out_records}
use Rattle.codec_laws.proofs.laws.reader_hands_out_records.Goals as goal

pub returns : goal.returns
returns c = reader_hands_out_records
