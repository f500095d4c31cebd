use Rattle.std.proofs.Common.{length, take, refl, ap, ◌∙◌}
use Rattle.std.proofs.lemmas.List.{take_at}
use Rattle.codec.proofs.invocation.Identifier.of_octets.Goals as goal

pub returns : goal.returns
returns c =
    let xs = c.args.octets.now in
    ap (take (length xs)) c.place_block.ensures ∙ take_at xs _ (length xs) refl
