-- What each call of a queue answers and copies, from the queue's meaning alone.
use Rattle.std.specs.Prelude.{ℕ, ◌-◌, min, Bool, cond, ◌&&◌, List, [], ◌∷◌, ◌++◌, length, take, drop, Ok, Err, Result, nat_le, nat_lt}
use Rattle.queue.specs.declared.refusal.Refusal.{Refusal}
use Rattle.queue.specs.declared.refusal.Refusal.TheVariants.{Empty, Place, Length, NoRoom}

-- A refusal by its number.
abbrev pub number : Refusal → ℕ
number Empty = 30
number Place = 31
number Length = 32
number NoRoom = 33

-- A call gives something, or refuses under a number.
pub data Answer (X : Type 0) : Type 0 where
  gives : X → Answer X
  refuses : ℕ → Answer X

abbrev pub answer_of : {X : Type 0} → Result X Refusal → Answer X
answer_of (Ok x) = gives x
answer_of (Err e) = refuses (number e)

-- The largest number that a count answers.
abbrev pub count_limit : ℕ
count_limit = 4294967295

abbrev pub capped : ℕ → ℕ
capped n = min n count_limit

-- The largest length of a record in a queue over lent octets.
abbrev pub length_limit : ℕ
length_limit = 65535

-- A length that a record of this queue may have.
abbrev pub fair : ℕ → ℕ → Bool
fair most n = nat_lt 0 n && nat_le n most

-- Add refuses 32 for a length of 0 or above the largest, then 33 where there is no room.
abbrev pub admission : ℕ → Bool → ℕ → Answer (Unit {0})
admission most free n = cond (fair most n) (cond free (gives tt) (refuses 33)) (refuses 32)

abbrev pub add_answer : ℕ → (ℕ → Bool) → ℕ → Answer (Unit {0})
add_answer most room n = admission most (room n) n

-- The list after add: the record stands behind those held, unless it was refused.
abbrev pub add_list : ℕ → (ℕ → Bool) → List (List ℕ) → List ℕ → List (List ℕ)
add_list most room held r = cond (fair most (length r) && room (length r)) (held ++ (r ∷ [])) held

abbrev pub first_answer : List (List ℕ) → Answer ℕ
first_answer [] = refuses 30
first_answer (r ∷ rs) = gives (length r)

-- Reading refuses 30 where nothing is held, then 31 where the place lies above the record's length.
abbrev pub read_answer : List (List ℕ) → ℕ → ℕ → Answer ℕ
read_answer [] place n = refuses 30
read_answer (r ∷ rs) place n = cond (nat_le place (length r)) (gives (min (length r - place) n)) (refuses 31)

-- The buffer after a read: its front is the record from the place on, as far as both go; its rest is untouched.
abbrev pub read_buffer : List (List ℕ) → ℕ → List ℕ → List ℕ
read_buffer [] place out = out
read_buffer (r ∷ rs) place out = take (length out) (drop place r) ++ drop (length r - place) out

abbrev pub drop_answer : List (List ℕ) → Answer (Unit {0})
drop_answer [] = refuses 30
drop_answer (r ∷ rs) = gives tt

-- The list without its oldest record.
abbrev pub rest : List (List ℕ) → List (List ℕ)
rest [] = []
rest (r ∷ rs) = rs
