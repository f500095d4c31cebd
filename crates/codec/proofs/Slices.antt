-- What the code knows of a slice of octets.
use Rattle.std.proofs.Common.{ℕ, List, get_or, arith, w8, Fits}
use Rattle.codec.specs.Octets.{Octets}

-- its elements are octets
pub octets_typed : (xs : List ℕ) → ((i : ℕ) → Fits w8 (get_or xs i 0)) → Octets xs
octets_typed xs typed k = omega (arith, typed k)
