-- A record that stands at a place as it was written reads as that record.
use Rattle.std.proofs.Common.{◌≡◌, ℕ, ◌+◌, ◌≤◌, true, List, [], ◌∷◌, ◌++◌, length, drop, Ok, refl, arith}
use Rattle.std.proofs.lemmas.Bool.{le-leb}
use Rattle.codec.specs.Limits.{time_length, data_limit, frame_header_length, notification_length, longest_record}
use Rattle.codec.specs.Times.{Stamp, timely, zero_stamp, two_octets, stamp_octets}
use Rattle.codec.specs.Fields.{octet_at, two_octets_at}
use Rattle.codec.specs.Records.{Record, frame, loss, status, end_of_data, encode, WellFormed, quality_octet, status_octet, frame_mark, notification_mark, frame_header, notification_octets, loss_type, status_type, end_of_data_type}
use Rattle.codec.specs.RecordReading.{record_at}
use Rattle.codec.specs.contracts.record.values.QualityOctetValue.TheImpl as quality_laws
use Rattle.codec.specs.contracts.record.values.ProductionStatusOctetValue.TheImpl as status_laws
use Rattle.codec.specs.declared.record.Quality.{Quality}
use Rattle.codec.specs.declared.record.ProductionStatus.{ProductionStatus}
use Rattle.codec.proofs.FieldsWritten.{octet_written, two_octets_written, block_written, behind, stamp_written, zero_stamp_written}

frame_written : (ys s : List ℕ) (q : Quality) (t : Stamp) (d : List ℕ) (at : ℕ) → drop at ys ≡ (frame_header q t (length d) ++ d) ++ s → timely t ≡ true → 1 ≤ length d → length d ≤ data_limit → record_at ys at ≡ Ok (frame q t d)
unfolding record_at
frame_written ys s q t d at e g low high =
    let n = length d in
    let marked = two_octets frame_mark in
    let qualified = two_octets frame_mark ++ (quality_octet q ∷ []) in
    let timed = qualified ++ stamp_octets t in
    let header = frame_header q t n in
    let e1 = two_octets_written ys (quality_octet q ∷ (stamp_octets t ++ (two_octets n ++ (d ++ s)))) frame_mark at e (omega arith) in
    let e2 = octet_written ys (stamp_octets t ++ (two_octets n ++ (d ++ s))) (quality_octet q) (at + 2) (behind ys marked _ at 2 e refl) in
    let e3 = (quality_laws.given_back-value).it q in
    let e4 = stamp_written ys (two_octets n ++ (d ++ s)) t (at + 3) (behind ys qualified _ at 3 e refl) g in
    let f5 : drop (at + 3 + time_length) ys ≡ two_octets n ++ (d ++ s) = behind ys (stamp_octets t) _ (at + 3) time_length (behind ys qualified _ at 3 e refl) refl in
    let e5 = two_octets_written ys (d ++ s) n (at + 3 + time_length) f5 (omega arith) in
    let t1 = le-leb 1 n low in
    let t2 = le-leb n data_limit high in
    let f6 : drop (at + frame_header_length) ys ≡ d ++ s = behind ys header (d ++ s) at frame_header_length e refl in
    let block = block_written ys d s (at + frame_header_length) n f6 refl low in
    let t3 = le-leb (at + 3 + time_length + 2 + n) (length ys) (omega (arith, block.0)) in
    let part = block.1 in
    rw (e1, e2, e3, e4, e5, t1, t2, t3, part)

module _ (ys s : List ℕ) (type value : ℕ) (t : Stamp) (at : ℕ) (e : drop at ys ≡ notification_octets type t value ++ s) where
  mark_written : two_octets_at ys at ≡ Ok notification_mark
  mark_written = two_octets_written ys (type ∷ (stamp_octets t ++ (value ∷ s))) notification_mark at e (omega arith)

  type_written : octet_at ys (at + 2) ≡ Ok type
  type_written = octet_written ys (stamp_octets t ++ (value ∷ s)) type (at + 2) (behind ys (two_octets notification_mark) _ at 2 e refl)

  time_stands : drop (at + 3) ys ≡ stamp_octets t ++ (value ∷ s)
  time_stands = behind ys (two_octets notification_mark ++ (type ∷ [])) _ at 3 e refl

  value_written : octet_at ys (at + 3 + time_length) ≡ Ok value
  value_written = octet_written ys s value (at + 3 + time_length) (behind ys (stamp_octets t) (value ∷ s) (at + 3) time_length time_stands refl)

loss_written : (ys s : List ℕ) (t : Stamp) (at : ℕ) → drop at ys ≡ notification_octets loss_type t 0 ++ s → timely t ≡ true → record_at ys at ≡ Ok (loss t)
unfolding record_at
loss_written ys s t at e g =
    let e1 = mark_written ys s loss_type 0 t at e in
    let e2 = type_written ys s loss_type 0 t at e in
    let e3 = stamp_written ys (0 ∷ s) t (at + 3) (time_stands ys s loss_type 0 t at e) g in
    let e4 = value_written ys s loss_type 0 t at e in
    rw (e1, e2, e3, e4)

status_written : (ys s : List ℕ) (w : ProductionStatus) (at : ℕ) → drop at ys ≡ notification_octets status_type zero_stamp (status_octet w) ++ s → record_at ys at ≡ Ok (status w)
unfolding record_at
status_written ys s w at e =
    let v = status_octet w in
    let e1 = mark_written ys s status_type v zero_stamp at e in
    let e2 = type_written ys s status_type v zero_stamp at e in
    let e3 = zero_stamp_written ys (v ∷ s) (at + 3) (time_stands ys s status_type v zero_stamp at e) in
    let e4 = value_written ys s status_type v zero_stamp at e in
    let e5 = (status_laws.given_back-value).it w in
    rw (e1, e2, e3, e4, e5)

end_written : (ys s : List ℕ) (at : ℕ) → drop at ys ≡ notification_octets end_of_data_type zero_stamp 0 ++ s → record_at ys at ≡ Ok end_of_data
unfolding record_at
end_written ys s at e =
    let e1 = mark_written ys s end_of_data_type 0 zero_stamp at e in
    let e2 = type_written ys s end_of_data_type 0 zero_stamp at e in
    let e3 = zero_stamp_written ys (0 ∷ s) (at + 3) (time_stands ys s end_of_data_type 0 zero_stamp at e) in
    let e4 = value_written ys s end_of_data_type 0 zero_stamp at e in
    rw (e1, e2, e3, e4)

-- a well-formed record that stands at a place reads as itself
pub record_written : (r : Record) → WellFormed r → (ys s : List ℕ) (at : ℕ) → drop at ys ≡ encode r ++ s → record_at ys at ≡ Ok r
unfolding encode
record_written (frame q t d) g ys s at e = frame_written ys s q t d at e g.0 g.1 g.2
record_written (loss t) g ys s at e = loss_written ys s t at e g
record_written (status w) g ys s at e = status_written ys s w at e
record_written end_of_data g ys s at e = end_written ys s at e

-- the length of a record's octets
pub frame_length : (q : Quality) (t : Stamp) (d : List ℕ) → length (encode (frame q t d)) ≡ frame_header_length + length d
unfolding encode
frame_length q t d = omega arith

pub loss_length : (t : Stamp) → length (encode (loss t)) ≡ notification_length
unfolding encode
loss_length t = refl

pub status_length : (s : ProductionStatus) → length (encode (status s)) ≡ notification_length
unfolding encode
status_length s = refl

pub end_length : length (encode end_of_data) ≡ notification_length
unfolding encode
end_length = refl

pub encode_some : (r : Record) → notification_length ≤ length (encode r)
encode_some (frame q t d) = omega (arith, frame_length q t d)
encode_some (loss t) = omega (arith, loss_length t)
encode_some (status s) = omega (arith, status_length s)
encode_some end_of_data = omega (arith, end_length)

pub encode_limit : (r : Record) → WellFormed r → length (encode r) ≤ longest_record
encode_limit (frame q t d) g = omega (arith, frame_length q t d, g.2)
encode_limit (loss t) g = omega (arith, loss_length t)
encode_limit (status s) g = omega (arith, status_length s)
encode_limit end_of_data g = omega (arith, end_length)
