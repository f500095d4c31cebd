-- The two laws of a queue, for the packed queue's room. Assumes nothing.
use Rattle.std.specs.Prelude.{◌≡◌, ℕ, ◌+◌, ◌<◌, ◌≤◌, true, List, [], nat_le}
use Rattle.std.proofs.Common.{ap, arith}
use Rattle.std.proofs.lemmas.Bool.{lt-ltb, le-leb, and_parts}
use Rattle.queue.specs.Answers.{fair}
use Rattle.queue.proofs.Admission.{fair_bounds}
use Rattle.packed.specs.Packing.{packed_room, packed_largest, packed_size, head_size}

pub packed_vacant : (octets : ℕ) (held : List (List ℕ)) (n : ℕ) → held ≡ [] → 0 < n → n ≤ packed_largest octets → packed_room octets held n ≡ true
packed_vacant octets held n e p l =
    let t : packed_size held ≡ 0 = ap packed_size e in
    let a = lt-ltb 0 n p in
    let b = le-leb n (packed_largest octets) l in
    let c = le-leb (packed_size held + (n + head_size)) octets (omega arith) in
    rw (a, b, c)

pub packed_bounded : (octets : ℕ) (held : List (List ℕ)) (n : ℕ) → packed_room octets held n ≡ true → (0 < n) × (n ≤ packed_largest octets)
packed_bounded octets held n e =
    let p = and_parts (fair (packed_largest octets) n) (nat_le (packed_size held + (n + head_size)) octets) e in
    fair_bounds (packed_largest octets) n p.0
