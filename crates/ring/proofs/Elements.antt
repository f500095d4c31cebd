-- The element at a place of a list. Assumes nothing.
use Rattle.std.proofs.Common.{◌≡◌, ℕ, zero, suc, ◌<◌, ◌≤◌, List, [], ◌∷◌, length, get_or, sym, refl, ap, arith}
use Rattle.queue.specs.Answers.{gives, refuses}
use Rattle.ring.specs.Rings.{element_answer}

module _ {X : Type 0} where
  pub element_held : (xs : List X) (at : ℕ) (x : X) → at < length xs → x ≡ get_or xs at x → element_answer xs at ≡ gives x
  element_held [] at x h e = absurd (omega arith)
  element_held (y ∷ xs) zero x h e = ap gives (sym e)
  element_held (y ∷ xs) (suc at) x h e = element_held xs at x (omega arith) e

  pub element_past : (xs : List X) (at : ℕ) → length xs ≤ at → element_answer xs at ≡ refuses 31
  element_past [] at h = refl
  element_past (y ∷ xs) zero h = absurd (omega arith)
  element_past (y ∷ xs) (suc at) h = element_past xs at (omega arith)
