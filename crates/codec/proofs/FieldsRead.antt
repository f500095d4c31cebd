-- A field that was read stands at its place as it is written.
use Rattle.std.proofs.Common.{◌≡◌, ℕ, ◌+◌, ◌*◌, ◌/◌, ◌%◌, ◌<◌, ◌≤◌, true, eqb, leb, List, [], ◌∷◌, ◌++◌, length, get_or, take, drop, Ok, sym, ap, ◌∙◌, subst, arith}
use Rattle.std.proofs.lemmas.Bool.{leb-true, le-leb, eqb-true, and_from}
use Rattle.std.proofs.lemmas.List.{drop_more, drop-drop, take-append-drop, length-take-le, length-drop}
use Rattle.codec.specs.Limits.{day_limit, millisecond_limit, microsecond_limit, two_octet_limit, time_length}
use Rattle.codec.specs.Octets.{Octets}
use Rattle.codec.specs.Times.{Stamp, timely, zero_stamp, two_octets, four_octets, stamp_octets}
use Rattle.codec.specs.Fields.{octet_at, two_octets_at, four_octets_at, two_octet_number, four_octet_number, stamp_at, zero_stamp_at}
use Rattle.codec.proofs.Results.{same_ok, and_then_ok, cond_ok}

-- a number of octets is written as those octets
two_octets_of : (a b : ℕ) → a < 256 → b < 256 → two_octets (a * 256 + b) ≡ a ∷ b ∷ []
two_octets_of a b h k =
    let x : (a * 256 + b) / 256 % 256 ≡ a = omega arith in
    let y : (a * 256 + b) % 256 ≡ b = omega arith in
    λ i. x i ∷ y i ∷ []

four_octets_of : (a b c d : ℕ) → a < 256 → b < 256 → c < 256 → d < 256 → four_octets (a * 16777216 + b * 65536 + c * 256 + d) ≡ a ∷ b ∷ c ∷ d ∷ []
four_octets_of a b c d h k l m =
    let n = a * 16777216 + b * 65536 + c * 256 + d in
    let w : n / 16777216 % 256 ≡ a = omega arith in
    let x : n / 65536 % 256 ≡ b = omega arith in
    let y : n / 256 % 256 ≡ c = omega arith in
    let z : n % 256 ≡ d = omega arith in
    λ i. w i ∷ x i ∷ y i ∷ z i ∷ []

-- a block that is there is what stands before the rest
pub block_read : (xs : List ℕ) (at n : ℕ) → at + n ≤ length xs → (length (take n (drop at xs)) ≡ n) × (drop at xs ≡ take n (drop at xs) ++ drop (at + n) xs)
block_read xs at n h = (
  length-take-le n (drop at xs) (omega (arith, length-drop at xs)),
  sym (take-append-drop n (drop at xs)) ∙ ap (λ r. take n (drop at xs) ++ r) (drop-drop n at xs),
)

-- a field of n octets that has this value, within the input
pub record Stands (xs field : List ℕ) (at n : ℕ) : Type 0 where
  pub inside : at + n ≤ length xs
  pub here : drop at xs ≡ field ++ drop (at + n) xs

module _ (xs : List ℕ) (octets : Octets xs) where
  pub octet_read : (at v : ℕ) → octet_at xs at ≡ Ok v → Stands xs (v ∷ []) at 1 × (v < 256)
  octet_read at v h =
      let p = cond_ok (leb (at + 1) (length xs)) (Ok (get_or xs at 0)) _ h in
      let inside = leb-true (at + 1) (length xs) p.0 in
      let v-is : get_or xs at 0 ≡ v = same_ok p.1 in
      (record { inside = inside; here = drop_more xs at 0 (omega arith) ∙ ap (λ w. w ∷ drop (at + 1) xs) v-is }, omega (arith, octets at))

  two_there : (at : ℕ) → at + 2 ≤ length xs → drop at xs ≡ two_octets (two_octet_number xs at) ++ drop (at + 2) xs
  two_there at h =
      let e : at + 1 + 1 ≡ at + 2 = omega arith in
      drop_more xs at 0 (omega arith) ∙ ap (λ r. get_or xs at 0 ∷ r) (drop_more xs (at + 1) 0 (omega arith) ∙ ap (λ k. get_or xs (at + 1) 0 ∷ drop k xs) e)
      ∙ ap (λ z. z ++ drop (at + 2) xs) (sym (two_octets_of (get_or xs at 0) (get_or xs (at + 1) 0) (octets at) (octets (at + 1))))

  pub two_octets_read : (at v : ℕ) → two_octets_at xs at ≡ Ok v → Stands xs (two_octets v) at 2 × (v ≤ two_octet_limit)
  two_octets_read at v h =
      let p = cond_ok (leb (at + 2) (length xs)) (Ok (two_octet_number xs at)) _ h in
      let inside = leb-true (at + 2) (length xs) p.0 in
      let v-is : two_octet_number xs at ≡ v = same_ok p.1 in
      (record { inside = inside; here = two_there at inside ∙ ap (λ w. two_octets w ++ drop (at + 2) xs) v-is }, omega (arith, octets at, octets (at + 1)))

  four_there : (at : ℕ) → at + 4 ≤ length xs → drop at xs ≡ four_octets (four_octet_number xs at) ++ drop (at + 4) xs
  four_there at h =
      let e1 : at + 1 + 1 ≡ at + 2 = omega arith in
      let e2 : at + 2 + 1 ≡ at + 3 = omega arith in
      let e3 : at + 3 + 1 ≡ at + 4 = omega arith in
      let d0 = drop_more xs at 0 (omega arith) in
      let d1 = drop_more xs (at + 1) 0 (omega arith) ∙ ap (λ k. get_or xs (at + 1) 0 ∷ drop k xs) e1 in
      let d2 = drop_more xs (at + 2) 0 (omega arith) ∙ ap (λ k. get_or xs (at + 2) 0 ∷ drop k xs) e2 in
      let d3 = drop_more xs (at + 3) 0 (omega arith) ∙ ap (λ k. get_or xs (at + 3) 0 ∷ drop k xs) e3 in
      d0 ∙ ap (λ r. get_or xs at 0 ∷ r) (d1 ∙ ap (λ r. get_or xs (at + 1) 0 ∷ r) (d2 ∙ ap (λ r. get_or xs (at + 2) 0 ∷ r) d3))
      ∙ ap (λ z. z ++ drop (at + 4) xs) (sym (four_octets_of (get_or xs at 0) (get_or xs (at + 1) 0) (get_or xs (at + 2) 0) (get_or xs (at + 3) 0) (octets at) (octets (at + 1)) (octets (at + 2)) (octets (at + 3))))

  pub four_octets_read : (at v : ℕ) → four_octets_at xs at ≡ Ok v → Stands xs (four_octets v) at 4
  four_octets_read at v h =
      let p = cond_ok (leb (at + 4) (length xs)) (Ok (four_octet_number xs at)) _ h in
      let inside = leb-true (at + 4) (length xs) p.0 in
      let v-is : four_octet_number xs at ≡ v = same_ok p.1 in
      record { inside = inside; here = four_there at inside ∙ ap (λ w. four_octets w ++ drop (at + 4) xs) v-is }

  -- three fields that stand one behind the other are a stamp
  stamp_stands : (at d ms us : ℕ) → Stands xs (two_octets d) at 2 → Stands xs (four_octets ms) (at + 2) 4 → Stands xs (two_octets us) (at + 6) 2
      → Stands xs (stamp_octets (record { day = d; millisecond = ms; microsecond = us })) at time_length
  stamp_stands at d ms us f1 f2 f3 =
      let k1 : at + 2 + 4 ≡ at + 6 = omega arith in
      let k2 : at + 6 + 2 ≡ at + time_length = omega arith in
      record {
        inside = omega (arith, f3.inside);
        here = f1.here ∙ ap (λ r. two_octets d ++ r) (f2.here ∙ ap (λ k. four_octets ms ++ drop k xs) k1 ∙ ap (λ r. four_octets ms ++ r) (f3.here ∙ ap (λ k. two_octets us ++ drop k xs) k2));
      }

  pub stamp_read : (at : ℕ) (t : Stamp) → stamp_at xs at ≡ Ok t → (timely t ≡ true) × Stands xs (stamp_octets t) at time_length
  stamp_read at t h =
      let a = and_then_ok (two_octets_at xs at) _ h in
      let b = and_then_ok (four_octets_at xs (at + 2)) _ a.2 in
      let c = cond_ok (leb b.0 millisecond_limit) _ _ b.2 in
      let d = and_then_ok (two_octets_at xs (at + 6)) _ c.1 in
      let e = cond_ok (leb d.0 microsecond_limit) _ _ d.2 in
      let f = two_octets_read at a.0 a.1 in
      subst (λ z. (timely z ≡ true) × Stands xs (stamp_octets z) at time_length) (same_ok e.1) (
        and_from (leb a.0 day_limit) _ (le-leb a.0 day_limit f.1) (and_from (leb b.0 millisecond_limit) _ c.0 e.0),
        stamp_stands at a.0 b.0 d.0 f.0 (four_octets_read (at + 2) b.0 b.1) (two_octets_read (at + 6) d.0 d.1).0,
      )

  pub zero_stamp_read : (at : ℕ) (w : Unit {0}) → zero_stamp_at xs at ≡ Ok w → Stands xs (stamp_octets zero_stamp) at time_length
  zero_stamp_read at w h =
      let a = and_then_ok (two_octets_at xs at) _ h in
      let a1 = cond_ok (eqb a.0 0) _ _ a.2 in
      let b = and_then_ok (four_octets_at xs (at + 2)) _ a1.1 in
      let b1 = cond_ok (eqb b.0 0) _ _ b.2 in
      let c = and_then_ok (two_octets_at xs (at + 6)) _ b1.1 in
      let c1 = cond_ok (eqb c.0 0) _ _ c.2 in
      stamp_stands at 0 0 0
      (two_octets_read at 0 (a.1 ∙ ap Ok (eqb-true _ _ a1.0))).0
      (four_octets_read (at + 2) 0 (b.1 ∙ ap Ok (eqb-true _ _ b1.0)))
      (two_octets_read (at + 6) 0 (c.1 ∙ ap Ok (eqb-true _ _ c1.0))).0
