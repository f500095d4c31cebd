-- What a reading that went well says of its steps.
use Rattle.std.proofs.Common.{◌≡◌, ℕ, Bool, true, false, cond, eqb, ◌⊎◌, Some, None, Ok, Err, Option, Result, refl, ap, ◌∙◌, inl, inr, ⊎_elim}
use Rattle.std.proofs.lemmas.Bool.{eqb-true}
use Rattle.codec.specs.declared.fault.Fault.{Fault}
use Rattle.codec.specs.Fields.{and_then, or_value_fault}

pub same_ok : {X : Type 0} {x y : X} → ◌≡◌ {A = Result X Fault} (Ok x) (Ok y) → x ≡ y
same_ok h = cc

pub and_then_ok : {X Y : Type 0} (r : Result X Fault) (next : X → Result Y Fault) {y : Y} → and_then r next ≡ Ok y → (x : X) × (r ≡ Ok x) × (next x ≡ Ok y)
and_then_ok (Ok x) next h = (x, refl, h)
and_then_ok (Err e) next {y} h = cc

pub cond_ok : {X : Type 0} (b : Bool) (r : Result X Fault) (e : Fault) {x : X} → cond b r (Err e) ≡ Ok x → (b ≡ true) × (r ≡ Ok x)
cond_ok true r e h = (refl, h)
cond_ok false r e {x} h = cc

pub cond_cases : {X : Type 0} (b : Bool) (r s : X) {x : X} → cond b r s ≡ x → ((b ≡ true) × (r ≡ x)) ⊎ ((b ≡ false) × (s ≡ x))
cond_cases true r s h = inl (refl, h)
cond_cases false r s h = inr (refl, h)

pub or_value_fault_ok : {X : Type 0} (o : Option X) (at : ℕ) {x : X} → or_value_fault o at ≡ Ok x → o ≡ Some x
or_value_fault_ok (Some y) at {x} h = cc
or_value_fault_ok None at {x} h = cc

-- a value that was found by the octets that stand for the values, one after the other
pub octet_of : {X : Type 0} (octet : X → ℕ) (n : ℕ) (x : X) (rest : Option X) {y : X}
    → (rest ≡ Some y → n ≡ octet y) → cond (eqb n (octet x)) (Some x) rest ≡ Some y → n ≡ octet y
octet_of octet n x rest {y} others h =
    ⊎_elim (λ a. let same : x ≡ y = cc in eqb-true n (octet x) a.0 ∙ ap octet same) (λ a. others a.1) (cond_cases (eqb n (octet x)) (Some x) rest h)
