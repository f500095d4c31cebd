use Rattle.std.proofs.Common.{◌≡◌, true, [], ◌∷◌, length, append_assoc, rules}
use Rattle.queue.proofs.Admission.{admitted}
use Rattle.layers.proofs.tandem.TandemQueue.add.Goals as goal

pub returns : goal.returns
returns g c =
    let n = length c.args.octets.now in
    let free = (admitted c.widest-most.result n c.room_for-free.result c.in_ok-admit.ensures).0 in
    let room : g.F.Meaning.room c.args.self.now.far n ≡ true = search rules in
    let bounds = g.F.Meaning.bounded c.args.self.now.far n room in
    let join = append_assoc (g.N.Meaning.held c.args.self.now.near) (g.F.Meaning.held c.args.self.now.far) (c.args.octets.now ∷ []) in
    search rules
