-- Writing a record to the front of a buffer.
use Rattle.std.proofs.Common.{◌≡◌, ℕ, ◌+◌, ◌<◌, ◌≤◌, true, leb, List, [], ◌∷◌, ◌++◌, length, drop, Ok, Err, sym, refl, ap, ◌∙◌, zero-add, arith}
use Rattle.std.proofs.lemmas.Bool.{le-leb, lt-leb, and_from}
use Rattle.codec.specs.Limits.{data_limit, frame_header_length, notification_length}
use Rattle.codec.specs.Blocks.{placed}
use Rattle.codec.specs.Times.{Stamp, stamp, two_octets, stamp_octets}
use Rattle.codec.specs.Records.{Record, frame, encode, quality_octet, frame_mark, notification_mark, frame_header, notification_octets, notified, writable, write_answer}
use Rattle.codec.specs.declared.record.Quality.{Quality}
use Rattle.codec.specs.declared.record.Notification.{Notification}
use Rattle.codec.specs.declared.record.Notification.TheVariants.{LossOfFrameSynchronization, ProductionStatusChange, EndOfData}
use Rattle.codec.specs.declared.record.WriteRefusal.TheVariants.{BufferTooShort}
use Rattle.codec.proofs.Placing.{placed_twice}
use Rattle.codec.proofs.RecordsWritten.{frame_length, loss_length, status_length, end_length}

pub too_short : (room : ℕ) (r : Record) → writable r ≡ true → room < length (encode r) → Err BufferTooShort ≡ write_answer room r
too_short room r w h = let t = lt-leb (length (encode r)) room h in rw (w, t)

pub fits : (room n : ℕ) (r : Record) → writable r ≡ true → n ≡ length (encode r) → n ≤ room → Ok n ≡ write_answer room r
fits room n r w e h = let t = le-leb (length (encode r)) room (omega arith) in rw (w, t) (ap Ok e)

pub frame_writable : (q : Quality) (t : Stamp) (d : List ℕ) → 1 ≤ length d → length d ≤ data_limit → writable (frame q t d) ≡ true
frame_writable q t d low high = and_from (leb 1 (length d)) _ (le-leb _ _ low) (le-leb _ _ high)

pub frame_octets : (q : Quality) (t : Stamp) (d : List ℕ) → encode (frame q t d) ≡ frame_header q t (length d) ++ d
unfolding encode
frame_octets q t d = refl

pub notified_writable : (n : Notification) → writable (notified n) ≡ true
notified_writable (LossOfFrameSynchronization t) = refl
notified_writable (ProductionStatusChange s) = refl
notified_writable EndOfData = refl

pub notified_length : (n : Notification) → length (encode (notified n)) ≡ notification_length
notified_length (LossOfFrameSynchronization t) = loss_length (stamp t)
notified_length (ProductionStatusChange s) = status_length s
notified_length EndOfData = end_length

-- a block placed at the front stands before the rest
pub placed_front : (out block octets : List ℕ) (n : ℕ) → block ≡ octets → n ≡ length octets → placed out 0 block ≡ octets ++ drop n out
placed_front out block octets n e l =
    ap (placed out 0) e ∙ ap (λ k. octets ++ drop k out) (zero-add (length octets) ∙ sym l)

-- a block placed behind one at the front: their join is placed
placed_behind : (out a b o o' : List ℕ) (n : ℕ) → o ≡ placed out 0 a → n ≡ length a → o' ≡ placed o n b → length a + length b ≤ length out → o' ≡ placed out 0 (a ++ b)
placed_behind out a b o o' n e l f h =
    let k : n ≡ 0 + length a = omega arith in
    f ∙ (λ i. placed (e i) (k i) b) ∙ placed_twice out a b 0 (omega arith)

-- a record's front and what follows it, placed one behind the other
module _ (out front timed : List ℕ) where
  pub frame_placed : (whole : List ℕ) (q : Quality) (t : Stamp) (d : List ℕ) → front ≡ placed out 0 (two_octets frame_mark ++ (quality_octet q ∷ stamp_octets t))
      → timed ≡ placed front 11 (two_octets (length d)) → whole ≡ placed timed frame_header_length d → frame_header_length + length d ≤ length out
      → whole ≡ encode (frame q t d) ++ drop (frame_header_length + length d) out
  frame_placed whole q t d e f g h =
      let front_octets = two_octets frame_mark ++ (quality_octet q ∷ stamp_octets t) in
      let header = placed_behind out front_octets (two_octets (length d)) front timed 11 e refl f (omega arith) in
      placed_behind out (front_octets ++ two_octets (length d)) d timed whole frame_header_length header refl g (omega arith)
      ∙ placed_front out _ _ _ (sym (frame_octets q t d)) (sym (frame_length q t d))

  pub notification_placed : (kind : ℕ) (t : Stamp) (value : ℕ) → front ≡ placed out 0 (two_octets notification_mark ++ (kind ∷ stamp_octets t))
      → timed ≡ placed front 11 (value ∷ []) → notification_length ≤ length out → timed ≡ notification_octets kind t value ++ drop notification_length out
  notification_placed kind t value e f h =
      placed_behind out (two_octets notification_mark ++ (kind ∷ stamp_octets t)) (value ∷ []) front timed 11 e refl f (omega arith)
