use Rattle.std.proofs.Common.{ap, ◌∙◌, length, arith}
use Rattle.ring.specs.Rings.{elements, size, added}
use Rattle.packed.specs.Holding.{held_in, octets_in}
use Rattle.packed.proofs.Packs.{put_behind, few, used_is, head_octets}
use Rattle.packed.proofs.packed.Packed.put.Goals as goal

pub overflow_add-self : goal.overflow_add-self
overflow_add-self c =
    let me = c.args.self.now in
    let fewer = few (held_in me) in
    let used = used_is me in
    let bounded = me.ring.bounded in
    omega (arith, me.counted)

pub invariant_of-self : goal.invariant_of-self
invariant_of-self c =
    let me = c.args.self.now in
    let first = c.add_run.new.self in
    let head = c.to_be_bytes-head.ensures ∙ head_octets (length c.args.octets.now) c.requires.length in
    let p = put_behind me (elements first) (elements c.add_run-2.new.self) c.args.octets.now (size first)
    (c.add_run.ensures.list ∙ ap (added (elements me.ring) (octets_in me)) head) c.add_run.ensures.same c.add_run-2.ensures.list c.requires.fits in
    record { whole = p.1; counted = p.2 }

pub returns-clause-list : goal.returns-clause-list
returns-clause-list c =
    let me = c.args.self.now in
    let first = c.add_run.new.self in
    let head = c.to_be_bytes-head.ensures ∙ head_octets (length c.args.octets.now) c.requires.length in
    (put_behind me (elements first) (elements c.add_run-2.new.self) c.args.octets.now (size first)
    (c.add_run.ensures.list ∙ ap (added (elements me.ring) (octets_in me)) head) c.add_run.ensures.same c.add_run-2.ensures.list c.requires.fits).0
