-- The two laws of a queue, for the room of a board of cells. Assumes nothing.
use Rattle.std.specs.Prelude.{◌≡◌, ℕ, ◌<◌, ◌≤◌, true, List, [], length, nat_lt}
use Rattle.std.proofs.Common.{ap, arith}
use Rattle.std.proofs.lemmas.Bool.{lt-ltb, le-leb, and_parts}
use Rattle.queue.specs.Answers.{fair}
use Rattle.queue.proofs.Admission.{fair_bounds}
use Rattle.cells.specs.Sizes.{cell_size}
use Rattle.cells.specs.Cells.{cell_room}

pub cell_vacant : (limit : ℕ) (held : List (List ℕ)) (n : ℕ) → 0 < limit → held ≡ [] → 0 < n → n ≤ cell_size → cell_room limit held n ≡ true
cell_vacant limit held n some e p l =
    let few : length held ≡ 0 = ap length e in
    let a = lt-ltb 0 n p in
    let b = le-leb n cell_size l in
    let c = lt-ltb (length held) limit (omega arith) in
    rw (a, b, c)

pub cell_bounded : (limit : ℕ) (held : List (List ℕ)) (n : ℕ) → cell_room limit held n ≡ true → (0 < n) × (n ≤ cell_size)
cell_bounded limit held n e = fair_bounds cell_size n (and_parts (fair cell_size n) (nat_lt (length held) limit) e).0
