-- An error that stands in place of another one.
use Rattle.std.proofs.Common.{◌≡◌, Ok, Err, Result, MatchResult, refl, sym, ◌∙◌, arith}

-- A result with its error replaced by d.
abbrev pub Refusing : {X E D : Type 0} → D → Result X E → Result X D → Type 0
Refusing d r r' = MatchResult r (λ x. r' ≡ Ok x) (λ e. r' ≡ Err d)

pub refusing_ok : {X E D : Type 0} (d : D) (r : Result X E) (r' : Result X D) (x : X) → Refusing d r r' → r' ≡ Ok x → r ≡ Ok x
refusing_ok d r r' x same is = grind arith

pub refusing_err : {X E D : Type 0} (d e : D) (r : Result X E) (r' : Result X D) → Refusing d r r' → r' ≡ Err e → (k : E) × (r ≡ Err k) × (e ≡ d)
refusing_err d e (Ok y) r' same is = let bad : Ok y ≡ Err e = sym same ∙ is in absurd (cc)
refusing_err d e (Err k) r' same is = (k, refl, cc)
