-- A list is empty, or has a first element; where two lists joined are empty, both are.
use Rattle.std.specs.Prelude.{◌≡◌, ℕ, ◌<◌, List, [], ◌∷◌, ◌++◌, length, refl}
use Rattle.std.proofs.Common.{sym, ap, ◌∙◌, arith}

module _ {X : Type 0} where
  pub nil_of : (xs : List X) → length xs ≡ 0 → xs ≡ []
  nil_of [] e = refl
  nil_of (x ∷ xs) e = absurd (omega arith)

  pub cons_of : (xs : List X) → 0 < length xs → (first : X) × (others : List X) × (xs ≡ first ∷ others)
  cons_of [] h = absurd (omega arith)
  cons_of (x ∷ xs) h = (x, xs, refl)

  pub front_nil : (a b : List X) → a ++ b ≡ [] → a ≡ []
  front_nil [] b e = refl
  front_nil (x ∷ xs) b e = let bad : ◌≡◌ {A = ℕ} 0 1 = cc in absurd (omega arith)

  pub back_nil : (a b : List X) → a ++ b ≡ [] → b ≡ []
  back_nil a b e = ap (λ h. h ++ b) (sym (front_nil a b e)) ∙ e
