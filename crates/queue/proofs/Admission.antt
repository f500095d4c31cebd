-- A record that is admitted has a length from 1 to the largest, and there is room for it.
use Rattle.std.proofs.Common.{◌≡◌, ℕ, ◌<◌, ◌≤◌, Bool, true, false, cond, ltb, leb, refl, arith}
use Rattle.std.proofs.lemmas.Bool.{and_parts, ltb-true, leb-true}
use Rattle.queue.specs.Answers.{Answer, gives, refuses, fair, admission}

both_held : (a b : Bool) → ◌≡◌ {A = Answer (Unit {0})} (gives tt) (cond a (cond b (gives tt) (refuses 33)) (refuses 32)) → (a ≡ true) × (b ≡ true)
both_held true true e = (refl, refl)
both_held true false e = let bad : ◌≡◌ {A = ℕ} 0 1 = cc in absurd (omega arith)
both_held false b e = let bad : ◌≡◌ {A = ℕ} 0 1 = cc in absurd (omega arith)

pub admitted : (most n : ℕ) (free : Bool) → gives tt ≡ admission most free n → (free ≡ true) × (fair most n ≡ true)
admitted most n free e = let p = both_held (fair most n) free e in (p.1, p.0)

pub fair_bounds : (most n : ℕ) → fair most n ≡ true → (0 < n) × (n ≤ most)
fair_bounds most n e = let p = and_parts (ltb 0 n) (leb n most) e in (ltb-true 0 n p.0, leb-true n most p.1)
