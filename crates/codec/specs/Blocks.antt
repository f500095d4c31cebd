-- Blocks of octets: read from an input, written into a buffer.
use Rattle.std.specs.Prelude.{ℕ, ◌+◌, List, ◌++◌, length, take, drop}

-- The n octets from a place on.
abbrev pub block_at : List ℕ → ℕ → ℕ → List ℕ
block_at xs at n = take n (drop at xs)

-- The buffer with the block at a place, and all else as it was.
abbrev pub placed : List ℕ → ℕ → List ℕ → List ℕ
placed out at block = take at out ++ (block ++ drop (at + length block) out)
