-- What a write leaves of the records beside it. Assumes nothing.
use Rattle.std.proofs.Common.{◌≡◌, ℕ, ◌+◌, ◌-◌, ◌≤◌, ◌⊎◌, List, ◌++◌, length, take, drop, sym, refl, ap, ◌∙◌, inl, inr, append_assoc, arith, length-append, length-drop, length-take}
use Rattle.std.proofs.lemmas.List.{take_at, drop_at, drop-append-le, take-append-le, take-take, drop-take, drop-drop, length-take-le}
use Rattle.ring.specs.Parts.{written}

pub own_cut : (o : List ℕ) (p : ℕ) (r : List ℕ) → p ≤ length o → take (length r) (drop p (written o p r)) ≡ r
own_cut o p r h = ap (take (length r)) (drop_at (take p o) (r ++ drop (p + length r) o) p (length-take-le p o h)) ∙ take_at r (drop (p + length r) o) (length r) refl

before : (o : List ℕ) (p a l : ℕ) (z : List ℕ) → a + l ≤ p → p ≤ length o → take l (drop a (take p o ++ z)) ≡ take l (drop a o)
before o p a l z h k =
    let al : a ≤ length (take p o) = simp length-take (omega arith) in
    let ll : l ≤ length (drop a (take p o)) = simp (length-drop, length-take) (omega arith) in
    let e : p ≡ a + (p - a) = omega arith in
    let d : drop a (take p o) ≡ take (p - a) (drop a o) = ap (λ q. drop a (take q o)) e ∙ drop-take a (p - a) o in
    ap (take l) (drop-append-le a (take p o) z al) ∙ take-append-le l (drop a (take p o)) z ll ∙ ap (take l) d ∙ take-take l (p - a) (drop a o) (omega arith)

after : (o r : List ℕ) (p a l : ℕ) → p + length r ≤ a → p ≤ length o → take l (drop a (written o p r)) ≡ take l (drop a o)
after o r p a l h k =
    let q = p + length r in
    let e : a ≡ q + (a - q) = omega arith in
    let len : length (take p o ++ r) ≡ q = simp (length-append, length-take) (omega arith) in
    let w : written o p r ≡ (take p o ++ r) ++ drop q o = sym (append_assoc (take p o) r (drop q o)) in
    let d : drop a (written o p r) ≡ drop a o =
    ap (λ x. drop x (written o p r)) e ∙ sym (drop-drop (a - q) q (written o p r)) ∙ ap (λ x. drop (a - q) (drop q x)) w
    ∙ ap (drop (a - q)) (drop_at (take p o ++ r) (drop q o) q len) ∙ drop-drop (a - q) q o ∙ ap (λ x. drop x o) (sym e) in
    ap (take l) d

pub other_cut : (o r : List ℕ) (p a l : ℕ) → (a + l ≤ p) ⊎ (p + length r ≤ a) → p ≤ length o → take l (drop a (written o p r)) ≡ take l (drop a o)
other_cut o r p a l (inl h) k = before o p a l (r ++ drop (p + length r) o) h k
other_cut o r p a l (inr h) k = after o r p a l h k
