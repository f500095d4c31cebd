-- What a call leaves of a queue's meaning.
use Rattle.std.specs.Prelude.{◌≡◌, ℕ, List, Ok, Err, Result}
use Rattle.queue.specs.declared.meaning.Meaning.{Ghosts}

-- A question and a refusal leave the held list, the largest length and the room as they were.
pub record Kept {Q : Type 0} (g : Ghosts Q) (q q' : Q) : Type 0 where
  pub list : g.held q' ≡ g.held q
  pub most : g.largest q' ≡ g.largest q
  pub space : (n : ℕ) → g.room q' n ≡ g.room q n

abbrev pub Refused : {X E : Type 0} → Result X E → Type 0
Refused (Ok x) = ⊥
Refused (Err e) = Unit {0}

-- Add and drop: the list is given and the largest length stays. The room afterwards is the queue's own affair
-- within the laws, but a refusal keeps it.
pub record Changed {X E : Type 0} (r : Result X E) {Q : Type 0} (g : Ghosts Q) (q q' : Q) (list' : List (List ℕ)) : Type 0 where
  pub list : g.held q' ≡ list'
  pub most : g.largest q' ≡ g.largest q
  pub space : Refused r → (n : ℕ) → g.room q' n ≡ g.room q n
