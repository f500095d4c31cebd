-- The laws of the rooms of quota and tandem, from those of the queues below.
use Rattle.std.specs.Prelude.{◌≡◌, ℕ, ◌<◌, ◌≤◌, max, Bool, true, false, ◌&&◌, ◌||◌, ◌⊎◌, List, [], length, refl, nat_lt}
use Rattle.std.proofs.Common.{ap, inl, inr, arith}
use Rattle.std.proofs.lemmas.Bool.{cases_lt, lt-ltb, and_parts}
use Rattle.layers.specs.Layers.{none, quota_room, tandem_room}

module _ (limit : ℕ) (held : List (List ℕ)) (below : ℕ → Bool) (n : ℕ) where
  pub quota_vacant : 0 < limit → held ≡ [] → below n ≡ true → quota_room limit held below n ≡ true
  quota_vacant some e free =
      let few : length held ≡ 0 = ap length e in
      let fewer = lt-ltb (length held) limit (omega arith) in
      rw (fewer, free)

  pub quota_bounded : quota_room limit held below n ≡ true → below n ≡ true
  quota_bounded e = (and_parts (nat_lt (length held) limit) (below n) e).1

or_true : (x : Bool) → (x || true) ≡ true
or_true true = refl
or_true false = refl

or_cases : (x y : Bool) → (x || y) ≡ true → (x ≡ true) ⊎ (y ≡ true)
or_cases true y e = inl refl
or_cases false y e = inr e

module _ (near far : ℕ → Bool) (far-held : List (List ℕ)) (n near-most far-most : ℕ) where
  pub tandem_vacant : far-held ≡ [] → (n ≤ near-most → near n ≡ true) → (n ≤ far-most → far n ≡ true) → n ≤ max near-most far-most → tandem_room near far-held far n ≡ true
  tandem_vacant e in_near in-far le =
      elim (cases_lt near-most n) [
        | inl h ↦ (let k : n ≤ far-most = omega arith in let y = in-far k in rw (e, y) (or_true (near n)))
        | inr h ↦ (let x = in_near h in rw (e, x))
      ]

  pub tandem_bounded : (near n ≡ true → (0 < n) × (n ≤ near-most)) → (far n ≡ true → (0 < n) × (n ≤ far-most)) → tandem_room near far-held far n ≡ true → (0 < n) × (n ≤ max near-most far-most)
  tandem_bounded in_near in-far e =
      elim (or_cases (none far-held && near n) (far n) e) [
        | inl h ↦ (let x = in_near (and_parts (none far-held) (near n) h).1 in (x.0, omega arith))
        | inr h ↦ (let y = in-far h in (y.0, omega arith))
      ]
