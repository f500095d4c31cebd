-- An ideal queue: it has room for every length from 1 to its largest, whatever it holds.
use Rattle.std.proofs.Common.{ℕ, leb, List, refl}
use Rattle.std.proofs.lemmas.Bool.{le-leb, lt-leb, and_from, and_right}
use Rattle.histories.specs.Queues.{Lawful}
use Rattle.histories.specs.Examples.{ideal}

pub ideal_lawful : (n : ℕ) (held : List (List ℕ)) → Lawful (ideal n held)
ideal_lawful n held = record {
  room_when_empty = λ _ k a b. and_from (leb 1 k) (leb k n) (le-leb 1 k a) (le-leb k n b);
  none_for_nothing = refl;
  none_beyond_largest = λ k a. and_right (leb 1 k) (leb k n) (lt-leb k n a);
}
