use Rattle.std.proofs.Common.{sym, ◌∙◌}
use Rattle.codec.proofs.Slices.{octets_typed}
use Rattle.codec.proofs.Contents.{one_found, none_found}
use Rattle.codec.proofs.record.read.one_record.Goals as goal

pub returns : goal.returns
returns c =
    one_found c.args.octets.now (octets_typed _ c.type_inv.octets) _ c.in-Ok.ensures.content c.in-Ok.ensures.fits
    (sym c.record_length.ensures ∙ c.if-record_length-octets.false)

pub returns-then-record_length-octets : goal.returns-then-record_length-octets
returns-then-record_length-octets c =
    none_found c.args.octets.now (octets_typed _ c.type_inv.octets) _ c.in-Ok.ensures.content c.in-Ok.ensures.fits
    (λ e. c.if-record_length-octets.true (c.record_length.ensures ∙ e))
