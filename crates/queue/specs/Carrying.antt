-- What it is to carry the oldest record of one queue to the end of another by way of a buffer.
use Rattle.std.specs.Prelude.{◌≡◌, ℕ, Bool, cond, List, [], ◌∷◌, ◌++◌, length, drop, Ok, Err, Result, nat_le}
use Rattle.queue.specs.declared.meaning.Meaning.{Ghosts}
use Rattle.queue.specs.declared.carry.CarryRefusal.{CarryRefusal}
use Rattle.queue.specs.declared.carry.CarryRefusal.TheVariants.{Queue, BufferTooShort}
use Rattle.queue.specs.Answers.{Answer, gives, refuses, number, add_answer}
use Rattle.queue.specs.Changes.{Kept}

abbrev pub carry_number : CarryRefusal → ℕ
carry_number (Queue e) = number e
carry_number BufferTooShort = 34

abbrev pub carry_answer_of : Result ℕ CarryRefusal → Answer ℕ
carry_answer_of (Ok n) = gives n
carry_answer_of (Err e) = refuses (carry_number e)

-- The length where the other queue takes the record, else that queue's refusal.
abbrev pub carried_length : ℕ → Answer (Unit {0}) → Answer ℕ
carried_length n (gives u) = gives n
carried_length n (refuses k) = refuses k

-- Carrying refuses 30 where nothing is held, then 34 where the buffer is shorter than the record, then what add refuses.
abbrev pub carry_answer : List (List ℕ) → ℕ → ℕ → (ℕ → Bool) → Answer ℕ
carry_answer [] size most room = refuses 30
carry_answer (r ∷ rs) size most room = cond (nat_le (length r) size) (carried_length (length r) (add_answer most room (length r))) (refuses 34)

-- One record went over, and stands at the front of the buffer.
pub record Moved {F T : Type 0} (f : Ghosts F) (t : Ghosts T) (from from' : F) (to to' : T) (buffer buffer' : List ℕ) : Type 0 where
  pub oldest : List ℕ
  pub taken : f.held from ≡ oldest ∷ f.held from'
  pub put : t.held to' ≡ t.held to ++ (oldest ∷ [])
  pub copied : buffer' ≡ oldest ++ drop (length oldest) buffer
  pub from_most : f.largest from' ≡ f.largest from
  pub to_most : t.largest to' ≡ t.largest to

-- A refusal keeps both queues and the buffer.
pub record Unmoved {F T : Type 0} (f : Ghosts F) (t : Ghosts T) (from from' : F) (to to' : T) (buffer buffer' : List ℕ) : Type 0 where
  pub from_kept : Kept f from from'
  pub to_kept : Kept t to to'
  pub untouched : buffer' ≡ buffer

abbrev pub Carried : Result ℕ CarryRefusal → {F T : Type 0} → Ghosts F → Ghosts T → F → F → T → T → List ℕ → List ℕ → Type 0
Carried (Ok n) f t from from' to to' buffer buffer' = Moved f t from from' to to' buffer buffer'
Carried (Err e) f t from from' to to' buffer buffer' = Unmoved f t from from' to to' buffer buffer'
