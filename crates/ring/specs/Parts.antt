-- A part of a list, from a place on: written over by a run, and read.
use Rattle.std.specs.Prelude.{ℕ, ◌+◌, Bool, cond, List, ◌++◌, length, take, drop, nat_le}
use Rattle.queue.specs.Answers.{Answer, gives, refuses}

-- Whether the n elements from a place on lie within the list.
abbrev pub within : {X : Type 0} → List X → ℕ → ℕ → Bool
within xs at n = nat_le (at + n) (length xs)

-- The list after a run is written from a place on.
abbrev pub written : {X : Type 0} → List X → ℕ → List X → List X
written xs at run = take at xs ++ (run ++ drop (at + length run) xs)

-- Where the n places from a place on do not lie within this many, that is refused with 31.
abbrev pub place_answer : ℕ → ℕ → ℕ → Answer (Unit {0})
place_answer size at n = cond (nat_le (at + n) size) (gives tt) (refuses 31)

-- A part that does not lie within the list is refused with 31.
abbrev pub part_answer : {X : Type 0} → List X → ℕ → ℕ → Answer (Unit {0})
part_answer xs at n = cond (within xs at n) (gives tt) (refuses 31)

-- The list after a run is written, or refused.
abbrev pub part_written : {X : Type 0} → List X → ℕ → List X → List X
part_written xs at run = cond (within xs at (length run)) (written xs at run) xs

-- The buffer after it is filled from a place on, or refused.
abbrev pub part_read : {X : Type 0} → List X → ℕ → List X → List X
part_read xs at out = cond (within xs at (length out)) (take (length out) (drop at xs)) out
