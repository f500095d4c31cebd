-- The size of a cell.
use Rattle.std.specs.Prelude.{ℕ}

-- How many octets a cell has.
abbrev pub cell_size : ℕ
cell_size = 32
