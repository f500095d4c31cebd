-- What a board of cells holds, and for what it has room.
use Rattle.std.specs.Prelude.{◌≡◌, ℕ, Bool, ◌&&◌, List, [], ◌∷◌, map, length, take, Ok, Err, Result, nat_lt}
use Rattle.std.specs.VecDeque.{deque_items}
use Rattle.queue.specs.declared.refusal.Refusal.{Refusal}
use Rattle.queue.specs.Answers.{fair, number, rest}
use Rattle.cells.specs.declared.cell.Cell.{Cell}
use Rattle.cells.specs.declared.cell_queue.CellQueue.{CellQueue}
use Rattle.cells.specs.Sizes.{cell_size}

-- The record that a cell keeps: its used octets.
abbrev pub record_in : Cell → List ℕ
record_in c = take c.used c.octets

-- The records of a queue, oldest first.
abbrev pub held_in : CellQueue → List (List ℕ)
held_in q = map record_in (deque_items q.cells)

-- How many cells a queue has.
abbrev pub limit_in : CellQueue → ℕ
limit_in q = q.limit

-- There is room for a record that fits into a cell while a cell is free.
abbrev pub cell_room : ℕ → List (List ℕ) → ℕ → Bool
cell_room limit held n = fair cell_size n && nat_lt (length held) limit

-- The cell of the oldest record, or refusal 30 where nothing is held.
abbrev pub Oldest : Result Cell Refusal → List (List ℕ) → Type 0
Oldest (Ok c) held = held ≡ record_in c ∷ rest held
Oldest (Err e) held = (number e ≡ 30) × (held ≡ [])
