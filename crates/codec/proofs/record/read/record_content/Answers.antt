use Rattle.codec.proofs.Contents.{content_read_or_faulty}
use Rattle.codec.proofs.record.read.record_content.Goals as goal

pub returns : goal.returns
returns c = content_read_or_faulty c.args.octets.now 0 c.content.result c.content.ensures.content c.content.ensures.fits
