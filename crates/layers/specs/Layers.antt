-- The room of the two layers, from the queues below.
use Rattle.std.specs.Prelude.{ℕ, Bool, true, false, ◌&&◌, ◌||◌, List, [], ◌∷◌, length, nat_lt}

-- A quota has room where the queue below has it and fewer than `limit` records are held.
abbrev pub quota_room : ℕ → List (List ℕ) → (ℕ → Bool) → ℕ → Bool
quota_room limit held below n = nat_lt (length held) limit && below n

-- Nothing is held.
abbrev pub none : List (List ℕ) → Bool
none [] = true
none (r ∷ rs) = false

-- A record goes to the near queue if the far one is empty and the near one has room, else to the far one: the tandem
-- has room when the queue so chosen has.
abbrev pub tandem_room : (ℕ → Bool) → List (List ℕ) → (ℕ → Bool) → ℕ → Bool
tandem_room near far-held far n = (none far-held && near n) || far n
