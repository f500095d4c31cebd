-- What a queue means to the provider, the two laws of its room, and what a call may do to it.
use Rattle.std.specs.Prelude.{◌≡◌, Bool, true, false, List, [], ◌∷◌, ◌++◌, ℕ, ◌<◌, ◌≤◌}

-- A queue by its meaning: the records that it holds, as octets, oldest first; the largest length that it takes; for which lengths it has room now.
pub record Queue : Type 0 where
  pub held : List (List ℕ)
  pub largest : ℕ
  pub room : ℕ → Bool

-- The laws: an empty queue has room for every length from 1 to its largest; no queue has room for length 0 or beyond its largest.
pub record Lawful (q : Queue) : Type 0 where
  pub room_when_empty : q.held ≡ [] → (n : ℕ) → 1 ≤ n → n ≤ q.largest → q.room n ≡ true
  pub none_for_nothing : q.room 0 ≡ false
  pub none_beyond_largest : (n : ℕ) → q.largest < n → q.room n ≡ false

-- What a call does to a queue.
pub data Effect : Type 0 where
  keep : Effect
  add : List ℕ → Effect
  drop_oldest : Effect

-- One record more at the end. How much room is left is the queue's own affair, within its laws.
pub record Added (q : Queue) (octets : List ℕ) (q' : Queue) : Type 0 where
  pub held : q'.held ≡ q.held ++ octets ∷ []
  pub largest : q'.largest ≡ q.largest
  pub lawful : Lawful q'

-- The oldest record is gone. Here too room is free within the laws.
pub record Dropped (q q' : Queue) : Type 0 where
  pub oldest : List ℕ
  pub held : q.held ≡ oldest ∷ q'.held
  pub largest : q'.largest ≡ q.largest
  pub lawful : Lawful q'

-- What a queue may be after a call. One that is kept has the same list, the same largest length and the same room.
abbrev pub After : Queue → Effect → Queue → Type 0
After q keep q' = q' ≡ q
After q (add octets) q' = Added q octets q'
After q drop_oldest q' = Dropped q q'
