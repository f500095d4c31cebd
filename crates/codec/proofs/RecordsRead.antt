-- A record that was read is well formed, and stands at its place as it is written.
use Rattle.std.proofs.Common.{◌≡◌, ℕ, ◌+◌, ◌≤◌, eqb, leb, List, ◌∷◌, ◌++◌, length, take, drop, Some, Ok, sym, ap, ◌∙◌, subst, ⊎_elim, arith}
use Rattle.std.proofs.lemmas.Bool.{leb-true, eqb-true, and_parts}
use Rattle.codec.specs.Limits.{time_length, data_limit, frame_header_length, notification_length}
use Rattle.codec.specs.Octets.{Octets}
use Rattle.codec.specs.Times.{Stamp, zero_stamp, two_octets, stamp_octets}
use Rattle.codec.specs.Fields.{octet_at, two_octets_at, zero_at, stamp_at, zero_stamp_at}
use Rattle.codec.specs.Records.{Record, frame, encode, WellFormed, quality_octet, status_octet, frame_mark, notification_mark, notification_octets, loss_type, status_type, end_of_data_type, data_length_allowed}
use Rattle.codec.specs.RecordReading.{Content, quality_of, status_of, quality_at, status_at, data_length_at, frame_at, loss_at, status_change_at, end_of_data_at, notification_at, content_at, record_of, record_at}
use Rattle.codec.specs.declared.record.Quality.{Quality}
use Rattle.codec.specs.declared.record.Quality.TheVariants.{Good, Erred, Undetermined}
use Rattle.codec.specs.declared.record.ProductionStatus.{ProductionStatus}
use Rattle.codec.specs.declared.record.ProductionStatus.TheVariants.{Running, Interrupted, Halted}
use Rattle.codec.proofs.Results.{same_ok, and_then_ok, cond_ok, cond_cases, or_value_fault_ok, octet_of}
use Rattle.codec.proofs.FieldsRead.{Stands, octet_read, two_octets_read, block_read, stamp_read, zero_stamp_read}

quality_octet_lem : (n : ℕ) (q : Quality) → quality_of n ≡ Some q → n ≡ quality_octet q
quality_octet_lem n q =
    octet_of quality_octet n Good _ (octet_of quality_octet n Erred _ (octet_of quality_octet n Undetermined _ (λ none. cc)))

status_octet_lem : (n : ℕ) (s : ProductionStatus) → status_of n ≡ Some s → n ≡ status_octet s
status_octet_lem n s =
    octet_of status_octet n Running _ (octet_of status_octet n Interrupted _ (octet_of status_octet n Halted _ (λ none. cc)))

-- a well-formed record whose octets stand at a place
pub record Begins (xs : List ℕ) (at : ℕ) (r : Record) : Type 0 where
  pub formed : WellFormed r
  pub stands : Stands xs (encode r) at (length (encode r))

-- a data length that was read: two octets, within its limits, with the data behind it
pub length_read : (xs : List ℕ) (at n : ℕ) → data_length_at xs at ≡ Ok n → (two_octets_at xs at ≡ Ok n) × (1 ≤ n) × (n ≤ data_limit) × (at + 2 + n ≤ length xs)
length_read xs at n h =
    let a = and_then_ok (two_octets_at xs at) _ h in
    let b = cond_ok (data_length_allowed a.0) _ _ a.2 in
    let c = cond_ok (leb (at + 2 + a.0) (length xs)) (Ok a.0) _ b.1 in
    let limits = and_parts (leb 1 a.0) (leb a.0 data_limit) b.0 in
    subst (λ m. (two_octets_at xs at ≡ Ok m) × (1 ≤ m) × (m ≤ data_limit) × (at + 2 + m ≤ length xs)) (same_ok c.1)
    (a.1, leb-true _ _ limits.0, leb-true _ _ limits.1, leb-true _ _ c.0)

module _ (xs : List ℕ) (octets : Octets xs) where
  zero_read : (at : ℕ) (w : Unit {0}) → zero_at xs at ≡ Ok w → octet_at xs at ≡ Ok 0
  zero_read at w h =
      let a = and_then_ok (octet_at xs at) _ h in
      let b = cond_ok (eqb a.0 0) _ _ a.2 in
      a.1 ∙ ap Ok (eqb-true _ _ b.0)

  quality_read : (at : ℕ) (q : Quality) → quality_at xs at ≡ Ok q → octet_at xs at ≡ Ok (quality_octet q)
  quality_read at q h = let a = and_then_ok (octet_at xs at) _ h in a.1 ∙ ap Ok (quality_octet_lem a.0 q (or_value_fault_ok _ at a.2))

  status_read : (at : ℕ) (s : ProductionStatus) → status_at xs at ≡ Ok s → octet_at xs at ≡ Ok (status_octet s)
  status_read at s h = let a = and_then_ok (octet_at xs at) _ h in a.1 ∙ ap Ok (status_octet_lem a.0 s (or_value_fault_ok _ at a.2))

  frame_read : (at : ℕ) (c : Content) → two_octets_at xs at ≡ Ok frame_mark → frame_at xs at ≡ Ok c → Begins xs at (record_of xs at c)
  unfolding encode
  frame_read at c m h =
      let a = and_then_ok (quality_at xs (at + 2)) _ h in
      let q = a.0 in
      let b = and_then_ok (stamp_at xs (at + 3)) _ a.2 in
      let t = b.0 in
      let e = and_then_ok (data_length_at xs (at + 3 + time_length)) _ b.2 in
      let n = e.0 in
      let l = length_read xs (at + 3 + time_length) n e.1 in
      let k : at + 3 + time_length + 2 ≡ at + frame_header_length = omega arith in
      let block = block_read xs (at + frame_header_length) n (omega (arith, l.3)) in
      let d = take n (drop (at + frame_header_length) xs) in
      let d-long : length d ≡ n = block.0 in
      let k1 : at + 2 + 1 ≡ at + 3 = omega arith in
      let whole = length (encode (frame q t d)) in
      let end : at + frame_header_length + n ≡ at + whole = omega arith in
      let f0 = (two_octets_read xs octets at frame_mark m).0.here in
      let f1 = (octet_read xs octets (at + 2) (quality_octet q) (quality_read (at + 2) q a.1)).0.here ∙ ap (λ j. quality_octet q ∷ drop j xs) k1 in
      let f2 = stamp_read xs octets (at + 3) t b.1 in
      let f3 = (two_octets_read xs octets (at + 3 + time_length) n l.0).0.here ∙ ap (λ j. two_octets n ++ drop j xs) k in
      let f4 = block.1 ∙ ap (λ j. d ++ drop j xs) end in
      let tail = f3 ∙ ap (λ r. two_octets n ++ r) f4 ∙ ap (λ j. two_octets j ++ (d ++ drop (at + whole) xs)) (sym d-long) in
      let timed = f2.1.here ∙ ap (λ r. stamp_octets t ++ r) tail in
      subst (λ z. Begins xs at (record_of xs at z)) (same_ok e.2)
      (record {
        formed = (f2.0, omega (arith, l.1), omega (arith, l.2));
        stands = record {
          inside = omega (arith, l.3);
          here = f0 ∙ ap (λ r. two_octets frame_mark ++ r) (f1 ∙ ap (λ r. quality_octet q ∷ r) timed);
        };
      })

  -- a notification's fields, put together
  notification_joins : (at type value : ℕ) (t : Stamp) → two_octets_at xs at ≡ Ok notification_mark → octet_at xs (at + 2) ≡ Ok type
      → Stands xs (stamp_octets t) (at + 3) time_length → octet_at xs (at + 3 + time_length) ≡ Ok value
      → Stands xs (notification_octets type t value) at notification_length
  notification_joins at type value t m k time v =
      let f0 = (two_octets_read xs octets at notification_mark m).0.here in
      let k1 : at + 2 + 1 ≡ at + 3 = omega arith in
      let f1 = (octet_read xs octets (at + 2) type k).0.here ∙ ap (λ j. type ∷ drop j xs) k1 in
      let f2 = (octet_read xs octets (at + 3 + time_length) value v).0 in
      let k2 : at + 3 + time_length + 1 ≡ at + notification_length = omega arith in
      record {
        inside = omega (arith, f2.inside);
        here = f0 ∙ ap (λ r. two_octets notification_mark ++ r) (f1 ∙ ap (λ r. type ∷ r) (time.here ∙ ap (λ r. stamp_octets t ++ r) (f2.here ∙ ap (λ j. value ∷ drop j xs) k2)));
      }

  loss_read : (at : ℕ) (c : Content) → two_octets_at xs at ≡ Ok notification_mark → octet_at xs (at + 2) ≡ Ok loss_type → loss_at xs at ≡ Ok c → Begins xs at (record_of xs at c)
  unfolding encode
  loss_read at c m k h =
      let a = and_then_ok (stamp_at xs (at + 3)) _ h in
      let b = and_then_ok (zero_at xs (at + 3 + time_length)) _ a.2 in
      let f = stamp_read xs octets (at + 3) a.0 a.1 in
      subst (λ z. Begins xs at (record_of xs at z)) (same_ok b.2)
      (record { formed = f.0; stands = notification_joins at loss_type 0 a.0 m k f.1 (zero_read _ b.0 b.1) })

  status_change_read : (at : ℕ) (c : Content) → two_octets_at xs at ≡ Ok notification_mark → octet_at xs (at + 2) ≡ Ok status_type → status_change_at xs at ≡ Ok c → Begins xs at (record_of xs at c)
  unfolding encode
  status_change_read at c m k h =
      let a = and_then_ok (zero_stamp_at xs (at + 3)) _ h in
      let b = and_then_ok (status_at xs (at + 3 + time_length)) _ a.2 in
      let f = zero_stamp_read xs octets (at + 3) a.0 a.1 in
      subst (λ z. Begins xs at (record_of xs at z)) (same_ok b.2)
      (record { formed = tt; stands = notification_joins at status_type (status_octet b.0) zero_stamp m k f (status_read _ b.0 b.1) })

  end_read : (at : ℕ) (c : Content) → two_octets_at xs at ≡ Ok notification_mark → octet_at xs (at + 2) ≡ Ok end_of_data_type → end_of_data_at xs at ≡ Ok c → Begins xs at (record_of xs at c)
  unfolding encode
  end_read at c m k h =
      let a = and_then_ok (zero_stamp_at xs (at + 3)) _ h in
      let b = and_then_ok (zero_at xs (at + 3 + time_length)) _ a.2 in
      let f = zero_stamp_read xs octets (at + 3) a.0 a.1 in
      subst (λ z. Begins xs at (record_of xs at z)) (same_ok b.2)
      (record { formed = tt; stands = notification_joins at end_of_data_type 0 zero_stamp m k f (zero_read _ b.0 b.1) })

  notification_read : (at : ℕ) (c : Content) → two_octets_at xs at ≡ Ok notification_mark → notification_at xs at ≡ Ok c → Begins xs at (record_of xs at c)
  notification_read at c m h =
      let a = and_then_ok (octet_at xs (at + 2)) _ h in
      let k = a.0 in
      ⊎_elim (λ x. loss_read at c m (a.1 ∙ ap Ok (eqb-true k loss_type x.0)) x.1)
      (λ x. ⊎_elim (λ y. status_change_read at c m (a.1 ∙ ap Ok (eqb-true k status_type y.0)) y.1)
      (λ y. let z = cond_ok (eqb k end_of_data_type) _ _ y.1 in end_read at c m (a.1 ∙ ap Ok (eqb-true k end_of_data_type z.0)) z.1)
      (cond_cases (eqb k status_type) _ _ x.1))
      (cond_cases (eqb k loss_type) _ _ a.2)

  pub content_read : (at : ℕ) (c : Content) → content_at xs at ≡ Ok c → Begins xs at (record_of xs at c)
  content_read at c h =
      let a = and_then_ok (two_octets_at xs at) _ h in
      let m = a.0 in
      ⊎_elim (λ x. frame_read at c (a.1 ∙ ap Ok (eqb-true m frame_mark x.0)) x.1)
      (λ x. let y = cond_ok (eqb m notification_mark) _ _ x.1 in notification_read at c (a.1 ∙ ap Ok (eqb-true m notification_mark y.0)) y.1)
      (cond_cases (eqb m frame_mark) _ _ a.2)

  -- what reads as a record is what writing it gives
  pub record_read : (at : ℕ) (r : Record) → record_at xs at ≡ Ok r → Begins xs at r
  unfolding record_at
  record_read at r h = let a = and_then_ok (content_at xs at) _ h in subst (Begins xs at) (same_ok a.2) (content_read at a.0 a.1)
