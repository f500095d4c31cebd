-- Octets that are exactly one record.
use Rattle.std.proofs.Common.{◌≡◌, ℕ, ◌+◌, ◌≤◌, true, eqb, leb, List, [], length, Some, Ok, Err, Result, sym, refl, ap, ◌∙◌, subst, ⊎_elim, arith}
use Rattle.std.specs.Str.{bytes_eq}
use Rattle.std.proofs.lemmas.Slice.Eq.{bytes_eq-Decides}
use Rattle.std.proofs.lemmas.Bool.{leb-true, le-leb, and_from}
use Rattle.std.proofs.lemmas.List.{append-nil}
use Rattle.codec.specs.Limits.{time_length, day_limit, millisecond_limit, microsecond_limit, data_limit, frame_header_length}
use Rattle.codec.specs.Times.{Stamp, timely}
use Rattle.codec.specs.Fields.{octet_at, two_octets_at, four_octets_at, two_octet_number, stamp_at, zero_stamp_at, zero_at}
use Rattle.codec.specs.Records.{Record, frame, loss, status, end_of_data, encode, WellFormed, frame_mark, notification_mark, loss_type, status_type, end_of_data_type}
use Rattle.codec.specs.RecordReading.{Content, quality_at, status_at, data_length_at, frame_at, loss_at, status_change_at, end_of_data_at, notification_at, content_at, record_of, record_at, whole, one_record}
use Rattle.codec.specs.declared.fault.Fault.{Fault}
use Rattle.codec.proofs.Results.{same_ok, and_then_ok, cond_ok, cond_cases}
use Rattle.codec.proofs.FieldsRead.{block_read}
use Rattle.codec.proofs.RecordsWritten.{record_written}
use Rattle.codec.proofs.RecordsRead.{length_read}

-- what the reader has checked of a stamp, and the octets that it has the day from
abbrev Checked : List ℕ → ℕ → Stamp → Type 0
Checked xs at t = (t.day ≡ two_octet_number xs at) × (t.millisecond ≤ millisecond_limit) × (t.microsecond ≤ microsecond_limit)

stamp_checked : (xs : List ℕ) (at : ℕ) (t : Stamp) → stamp_at xs at ≡ Ok t → Checked xs at t
stamp_checked xs at t h =
    let a = and_then_ok (two_octets_at xs at) _ h in
    let a1 = cond_ok (leb (at + 2) (length xs)) (Ok (two_octet_number xs at)) _ a.1 in
    let b = and_then_ok (four_octets_at xs (at + 2)) _ a.2 in
    let c = cond_ok (leb b.0 millisecond_limit) _ _ b.2 in
    let d = and_then_ok (two_octets_at xs (at + 6)) _ c.1 in
    let e = cond_ok (leb d.0 microsecond_limit) _ _ d.2 in
    subst (Checked xs at) (same_ok e.1) (sym (same_ok a1.1), leb-true _ _ c.0, leb-true _ _ e.0)

-- what the reader has checked of a record
abbrev Read : List ℕ → ℕ → Record → Type 0
Read xs at (frame q t d) = Checked xs (at + 3) t × (1 ≤ length d) × (length d ≤ data_limit)
Read xs at (loss t) = Checked xs (at + 3) t
Read xs at (status s) = Unit {0}
Read xs at end_of_data = Unit {0}

module _ (xs : List ℕ) (at : ℕ) where
  frame_checked : (c : Content) → frame_at xs at ≡ Ok c → Read xs at (record_of xs at c)
  frame_checked c h =
      let a = and_then_ok (quality_at xs (at + 2)) _ h in
      let b = and_then_ok (stamp_at xs (at + 3)) _ a.2 in
      let e = and_then_ok (data_length_at xs (at + 3 + time_length)) _ b.2 in
      let l = length_read xs (at + 3 + time_length) e.0 e.1 in
      let long = (block_read xs (at + frame_header_length) e.0 (omega (arith, l.3))).0 in
      subst (λ z. Read xs at (record_of xs at z)) (same_ok e.2)
      (stamp_checked xs (at + 3) b.0 b.1, omega (arith, l.1), omega (arith, l.2))

  loss_checked : (c : Content) → loss_at xs at ≡ Ok c → Read xs at (record_of xs at c)
  loss_checked c h =
      let a = and_then_ok (stamp_at xs (at + 3)) _ h in
      let b = and_then_ok (zero_at xs (at + 3 + time_length)) _ a.2 in
      subst (λ z. Read xs at (record_of xs at z)) (same_ok b.2) (stamp_checked xs (at + 3) a.0 a.1)

  status_checked : (c : Content) → status_change_at xs at ≡ Ok c → Read xs at (record_of xs at c)
  status_checked c h =
      let a = and_then_ok (zero_stamp_at xs (at + 3)) _ h in
      let b = and_then_ok (status_at xs (at + 3 + time_length)) _ a.2 in
      subst (λ z. Read xs at (record_of xs at z)) (same_ok b.2) tt

  end_checked : (c : Content) → end_of_data_at xs at ≡ Ok c → Read xs at (record_of xs at c)
  end_checked c h =
      let a = and_then_ok (zero_stamp_at xs (at + 3)) _ h in
      let b = and_then_ok (zero_at xs (at + 3 + time_length)) _ a.2 in
      subst (λ z. Read xs at (record_of xs at z)) (same_ok b.2) tt

  notification_checked : (c : Content) → notification_at xs at ≡ Ok c → Read xs at (record_of xs at c)
  notification_checked c h =
      let a = and_then_ok (octet_at xs (at + 2)) _ h in
      ⊎_elim (λ x. loss_checked c x.1)
      (λ x. ⊎_elim (λ y. status_checked c y.1)
      (λ y. end_checked c (cond_ok (eqb a.0 end_of_data_type) _ _ y.1).1)
      (cond_cases (eqb a.0 status_type) _ _ x.1))
      (cond_cases (eqb a.0 loss_type) _ _ a.2)

  record_checked : (r : Record) → record_at xs at ≡ Ok r → Read xs at r
  unfolding record_at
  record_checked r h =
      let a = and_then_ok (content_at xs at) _ h in
      let b = and_then_ok (two_octets_at xs at) _ a.1 in
      subst (Read xs at) (same_ok a.2)
      (⊎_elim (λ x. frame_checked a.0 x.1)
      (λ x. notification_checked a.0 (cond_ok (eqb b.0 notification_mark) _ _ x.1).1)
      (cond_cases (eqb b.0 frame_mark) _ _ b.2))

timely_from : (t : Stamp) → t.day ≤ day_limit → t.millisecond ≤ millisecond_limit → t.microsecond ≤ microsecond_limit → timely t ≡ true
timely_from t d ms us = and_from (leb t.day day_limit) _ (le-leb _ _ d) (and_from (leb t.millisecond millisecond_limit) _ (le-leb _ _ ms) (le-leb _ _ us))

-- a record whose octets are those read is well formed: its day is in two octets, as it was written
formed : (r : Record) → Read (encode r) 0 r → WellFormed r
unfolding encode
formed (frame q t d) h = (timely_from t (omega (arith, h.0.0)) h.0.1 h.0.2, h.1, h.2)
formed (loss t) h = timely_from t (omega (arith, h.0)) h.1 h.2
formed (status s) h = tt
formed end_of_data h = tt

whole_some : (xs : List ℕ) (read : Result Record Fault) (r : Record) → whole xs read ≡ Some r → (read ≡ Ok r) × (encode r ≡ xs)
whole_some xs (Ok s) r h =
    ⊎_elim (λ a.
    let same : s ≡ r = cc in
    (ap Ok same, ap encode (sym same) ∙ (bytes_eq-Decides (encode s) xs).0 a.0))
    (λ a. cc)
    (cond_cases (bytes_eq (encode s) xs) _ _ h)
whole_some xs (Err e) r h = cc

-- octets that are one record are a well-formed record's
pub one_record_read : (xs : List ℕ) (r : Record) → one_record xs ≡ Some r → WellFormed r × (encode r ≡ xs)
unfolding one_record
one_record_read xs r h =
    let a = whole_some xs (record_at xs 0) r h in
    (formed r (subst (λ z. Read z 0 r) (sym a.1) (record_checked xs 0 r a.0)), a.1)

-- the octets of a well-formed record are that one record
pub one_record_written : (r : Record) → WellFormed r → one_record (encode r) ≡ Some r
unfolding one_record
one_record_written r g =
    let e = record_written r g (encode r) [] 0 (sym (append-nil (encode r))) in
    let t = (bytes_eq-Decides (encode r) (encode r)).1 refl in
    rw (e, t)
