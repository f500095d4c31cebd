-- A list read from a place on, and round its end.
use Rattle.std.specs.Prelude.{ℕ, ◌+◌, ◌-◌, cond, List, ◌++◌, take, drop, nat_lt}

-- The list from start on, then what stands before start.
abbrev pub turned : {X : Type 0} → ℕ → List X → List X
turned start xs = drop start xs ++ take start xs

-- Where the place k after start stands in a list of this size.
abbrev pub placed : ℕ → ℕ → ℕ → ℕ
placed start k size = cond (nat_lt k (size - start)) (start + k) (k - (size - start))
