use Rattle.codec.proofs.Contents.{part_found}
use Rattle.codec.proofs.position.Position.part.Goals as goal

pub returns-clause-part : goal.returns-clause-part
returns-clause-part c =
    part_found c.args.self.input.now c.block_at.result.now c.args.self.place c.record_length.result _ c.block_at.ensures.typed c.in_ok-content.ensures.content c.in_ok-content.ensures.fits c.record_length.ensures c.block_at.ensures.octets
