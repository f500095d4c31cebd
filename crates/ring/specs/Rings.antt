-- What a ring holds, and what its calls answer and leave.
use Rattle.std.specs.Prelude.{ℕ, zero, suc, ◌+◌, Bool, cond, List, [], ◌∷◌, ◌++◌, length, take, drop, nat_le}
use Rattle.queue.specs.Answers.{Answer, gives, refuses}
use Rattle.ring.specs.declared.ring.Ring.{Ring}
use Rattle.ring.specs.Turns.{turned}

-- The held elements, oldest first: they begin at `start` and go round the end of the slots.
abbrev pub elements : {X : Type 0} → Ring X → List X
elements r = take r.count (turned r.start r.slots.now)

-- How many elements a ring can hold.
abbrev pub size : {X : Type 0} → Ring X → ℕ
size r = length r.slots.now

-- Whether a run fits beside those held.
abbrev pub fits : {X : Type 0} → List X → ℕ → List X → Bool
fits held most run = nat_le (length held + length run) most

-- A run that does not fit whole is refused with 33.
abbrev pub add_answer : {X : Type 0} → List X → ℕ → List X → Answer (Unit {0})
add_answer held most run = cond (fits held most run) (gives tt) (refuses 33)

-- The elements after a run is added, or refused.
abbrev pub added : {X : Type 0} → List X → ℕ → List X → List X
added held most run = cond (fits held most run) (held ++ run) held

-- The element at a place; a place that is not held is refused with 31.
abbrev pub element_answer : {X : Type 0} → List X → ℕ → Answer X
element_answer [] at = refuses 31
element_answer (x ∷ xs) zero = gives x
element_answer (x ∷ xs) (suc at) = element_answer xs at

-- Where fewer than n are held, removing n is refused with 30.
abbrev pub drop_answer : {X : Type 0} → List X → ℕ → Answer (Unit {0})
drop_answer held n = cond (nat_le n (length held)) (gives tt) (refuses 30)

-- The elements after the n oldest are removed, or that is refused.
abbrev pub dropped : {X : Type 0} → List X → ℕ → List X
dropped held n = cond (nat_le n (length held)) (drop n held) held
