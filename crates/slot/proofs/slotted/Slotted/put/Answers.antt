use Rattle.std.proofs.Common.{refl, arith}
use Rattle.ring.specs.Memories.{contents}
use Rattle.ring.specs.Rings.{elements}
use Rattle.slot.proofs.Puts.{next_in, put_done}
use Rattle.slot.proofs.slotted.Slotted.put.Goals as goal

pub overflow_mul-place : goal.overflow_mul-place
overflow_mul-place c =
    let me = c.args.self.now in
    let at = next_in me c.requires.free in
    omega (arith, at.1, me.octets.bounded)

pub onward-self-requires : goal.onward-self-requires
onward-self-requires c = (next_in c.args.self.now c.requires.free).0

pub invariant_of-self : goal.invariant_of-self
invariant_of-self c =
    let me = c.args.self.now in
    let d = put_done me (elements c.add.new.self) (contents c.write_part.new.self) c.onward-self.result c.args.octets.now
    c.requires.free c.requires.short c.add.ensures.list c.write_part.ensures.left c.onward-self.ensures in
    record {
      placed = d.0;
      within = omega (arith, d.1, me.within);
      noted = omega (arith, c.add.ensures.same, me.noted);
      few = d.2;
      begins = me.begins;
      follows = d.3;
    }

pub returns : goal.returns
returns c =
    let d = put_done c.args.self.now (elements c.add.new.self) (contents c.write_part.new.self) c.onward-self.result c.args.octets.now
    c.requires.free c.requires.short c.add.ensures.list c.write_part.ensures.left c.onward-self.ensures in
    record { list = d.4; slots = refl; width = refl }
