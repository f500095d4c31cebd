-- The reader of a record is steady.
use Rattle.std.proofs.Common.{◌≡◌, ℕ, ◌+◌, ◌<◌, ◌≤◌, eqb, List, length, take, drop, sym, refl, ap, ◌∙◌, arith}
use Rattle.std.proofs.lemmas.List.{take-append-drop, drop-append-le, take-append-le, length-drop, length-take-le}
use Rattle.codec.specs.Limits.{time_length, frame_header_length}
use Rattle.codec.specs.Fields.{zero_at}
use Rattle.codec.specs.Records.{encode, frame, frame_mark, notification_mark, loss_type, status_type, end_of_data_type, data_length_allowed}
use Rattle.codec.specs.RecordReading.{Content, frame_content, loss_content, status_content, end_content, size, quality_of, status_of, quality_at, status_at, data_length_at, frame_at, loss_at, status_change_at, end_of_data_at, notification_at, content_at, record_of, record_at}
use Rattle.codec_laws.proofs.Steady.{Steady, steady_then, steady_cond, steady_value, steady_mark, steady_ok, steady_present, steady_from}
use Rattle.codec_laws.proofs.FieldsSteady.{octet_steady, two_octets_steady, value_steady, stamp_steady, zero_stamp_steady}
use Rattle.codec.proofs.Contents.{size_kept}

-- a part of what is left of a cut input
pub take_drop_take : (xs : List ℕ) (n k p : ℕ) → k + n ≤ p → p ≤ length xs → take n (drop k (take p xs)) ≡ take n (drop k xs)
take_drop_take xs n k p h l =
    let front = take p xs in
    let long = length-take-le p xs l in
    let whole = take-append-drop p xs in
    sym (ap (λ ys. take n (drop k ys)) (sym whole)
    ∙ ap (take n) (drop-append-le k front (drop p xs) (omega arith))
    ∙ take-append-le n (drop k front) (drop p xs) (omega (arith, length-drop k front)))

module _ (at : ℕ) where
  quality_steady : Steady at (at + 2) (λ xs. quality_at xs (at + 2)) (λ _. at + 2 + 1)
  quality_steady = steady_then at (octet_steady at (at + 2)) (λ n. value_steady at (quality_of n) (at + 2) (omega arith) (omega arith))

  status_steady : (place : ℕ) → at < place → Steady at place (λ xs. status_at xs place) (λ _. place + 1)
  status_steady place low = steady_then at (octet_steady at place) (λ n. value_steady at (status_of n) place low (omega arith))

  zero_steady : (place : ℕ) → at < place → Steady at place (λ xs. zero_at xs place) (λ _. place + 1)
  zero_steady place low = steady_then at (octet_steady at place) (λ n. steady_cond at (eqb n 0) (steady_ok at (λ xs. tt) (λ xs h. refl) (λ xs p h k. refl)) (steady_value at place low (omega arith)))

  data_length_steady : (place : ℕ) → at < place → Steady at place (λ xs. data_length_at xs place) (λ n. place + 2 + n)
  data_length_steady place low =
      steady_then at (two_octets_steady at place) (λ n.
      steady_cond at (data_length_allowed n)
      (steady_present at (place + 2) n (λ xs. n) (λ xs h. refl) (λ xs p h k. refl))
      (steady_value at place low (omega arith)))

  frame_steady : Steady at (at + 2) (λ xs. frame_at xs at) (λ c. at + size c)
  frame_steady =
      steady_then at quality_steady (λ q.
      steady_from at {m = at + 3} (omega arith) (steady_then at (stamp_steady at (at + 3) (omega arith)) (λ t.
      steady_then at (data_length_steady (at + 3 + time_length) (omega arith)) (λ n.
      steady_ok at (λ xs. frame_content q t n) (λ xs h. omega arith) (λ xs p h k. refl)))))

  loss_steady : Steady at (at + 3) (λ xs. loss_at xs at) (λ c. at + size c)
  loss_steady =
      steady_then at (stamp_steady at (at + 3) (omega arith)) (λ t.
      steady_then at (zero_steady (at + 3 + time_length) (omega arith)) (λ _.
      steady_ok at (λ xs. loss_content t) (λ xs h. omega arith) (λ xs p h k. refl)))

  status_change_steady : Steady at (at + 3) (λ xs. status_change_at xs at) (λ c. at + size c)
  status_change_steady =
      steady_then at (zero_stamp_steady at (at + 3) (omega arith)) (λ _.
      steady_then at (status_steady (at + 3 + time_length) (omega arith)) (λ s.
      steady_ok at (λ xs. status_content s) (λ xs h. omega arith) (λ xs p h k. refl)))

  end_of_data_steady : Steady at (at + 3) (λ xs. end_of_data_at xs at) (λ c. at + size c)
  end_of_data_steady =
      steady_then at (zero_stamp_steady at (at + 3) (omega arith)) (λ _.
      steady_then at (zero_steady (at + 3 + time_length) (omega arith)) (λ _.
      steady_ok at (λ xs. end_content) (λ xs h. omega arith) (λ xs p h k. refl)))

  notification_steady : Steady at (at + 2) (λ xs. notification_at xs at) (λ c. at + size c)
  notification_steady =
      steady_then at (octet_steady at (at + 2)) (λ type.
      steady_from at {m = at + 3} (omega arith)
      (steady_cond at (eqb type loss_type) loss_steady
      (steady_cond at (eqb type status_type) status_change_steady
      (steady_cond at (eqb type end_of_data_type) end_of_data_steady
      (steady_value at (at + 2) (omega arith) (omega arith))))))

  content_steady : Steady at at (λ xs. content_at xs at) (λ c. at + size c)
  content_steady =
      steady_then at (two_octets_steady at at) (λ mark.
      steady_cond at (eqb mark frame_mark) frame_steady
      (steady_cond at (eqb mark notification_mark) notification_steady (steady_mark at (omega arith))))

  record_same : (c : Content) (xs : List ℕ) (p : ℕ) → at + size c ≤ p → p ≤ length xs → record_of (take p xs) at c ≡ record_of xs at c
  record_same (frame_content q t n) xs p h k = ap (frame q t) (take_drop_take xs n (at + frame_header_length) p (omega arith) k)
  record_same (loss_content t) xs p h k = refl
  record_same (status_content s) xs p h k = refl
  record_same end_content xs p h k = refl

  pub record_steady : Steady at at (λ xs. record_at xs at) (λ r. at + length (encode r))
  unfolding record_at
  record_steady =
      steady_then at content_steady (λ c.
      steady_ok at (λ xs. record_of xs at c) (λ xs h. ap (λ n. at + n) (size_kept xs at c h)) (record_same c))
