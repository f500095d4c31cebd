-- A record by its content: what the reader of the code knows of it.
use Rattle.std.proofs.Common.{◌≡◌, ℕ, ◌+◌, ◌≤◌, false, List, [], length, take, drop, IfOk, Some, None, Ok, Err, Result, sym, refl, ap, ◌∙◌, ⊎_elim, arith}
use Rattle.std.specs.Str.{bytes_eq}
use Rattle.std.proofs.lemmas.Slice.Eq.{bytes_eq-Decides}
use Rattle.std.proofs.lemmas.Bool.{cases_Bool}
use Rattle.std.proofs.lemmas.List.{append-nil, take_at}
use Rattle.codec.specs.Limits.{frame_header_length}
use Rattle.codec.specs.Octets.{Octets}
use Rattle.codec.specs.Blocks.{block_at}
use Rattle.codec.specs.Fields.{and_then}
use Rattle.codec.specs.Records.{encode}
use Rattle.codec.specs.RecordReading.{Content, frame_content, loss_content, status_content, end_content, content_of, content_or, content_if, content_at, record_of, record_at, one_record, said, said_or, size}
use Rattle.codec.specs.Reader.{part_at}
use Rattle.codec.specs.declared.fault.Fault.{Fault}
use Rattle.codec.specs.declared.record.RecordContent.{RecordContent}
use Rattle.codec.proofs.FieldsRead.{block_read}
use Rattle.codec.proofs.RecordsWritten.{frame_length, loss_length, status_length, end_length}
use Rattle.codec.proofs.RecordsRead.{record_read}

module _ (xs : List ℕ) (at : ℕ) where
  -- a content that fits the input is the content of its record, and says how long it is
  content_kept : (c : Content) → at + size c ≤ length xs → content_of (record_of xs at c) ≡ c
  content_kept (frame_content q t n) h = ap (frame_content q t) (block_read xs (at + frame_header_length) n (omega arith)).0
  content_kept (loss_content t) h = refl
  content_kept (status_content s) h = refl
  content_kept end_content h = refl

  pub size_kept : (c : Content) → at + size c ≤ length xs → length (encode (record_of xs at c)) ≡ size c
  size_kept (frame_content q t n) h = frame_length q t _ ∙ ap (λ m. frame_header_length + m) (block_read xs (at + frame_header_length) n (omega arith)).0
  size_kept (loss_content t) h = loss_length t
  size_kept (status_content s) h = status_length s
  size_kept end_content h = end_length

  pub record_found : (c : Content) → Ok c ≡ content_at xs at → record_at xs at ≡ Ok (record_of xs at c)
  unfolding record_at
  record_found c e = ap (λ k. and_then k (λ z. Ok (record_of xs at z))) (sym e)

  pub record_faulty : (f : Fault) → Err f ≡ content_at xs at → record_at xs at ≡ Err f
  unfolding record_at
  record_faulty f e = ap (λ k. and_then k (λ z. Ok (record_of xs at z))) (sym e)

  pub content_found : (c : Content) → Ok c ≡ content_at xs at → at + size c ≤ length xs → Ok c ≡ content_or (record_at xs at)
  content_found c e h = ap Ok (sym (content_kept c h)) ∙ sym (ap content_or (record_found c e))

  pub content_faulty : (f : Fault) → Err f ≡ content_at xs at → Err f ≡ content_or (record_at xs at)
  content_faulty f e = sym (ap content_or (record_faulty f e))

  -- the part that a content takes has the octets of its record
  pub part_octets : (c : Content) → Octets xs → Ok c ≡ content_at xs at → at + size c ≤ length xs → take (size c) (drop at xs) ≡ encode (record_of xs at c)
  part_octets c octets e h =
      let r = record_of xs at c in
      let there = (record_read xs octets at r (record_found c e)).stands.here in
      ap (take (size c)) there ∙ take_at (encode r) _ (size c) (size_kept c h)

module _ (xs : List ℕ) (octets : Octets xs) (c : Content) (e : Ok c ≡ content_at xs 0) (h : 0 + size c ≤ length xs) where
  -- octets of which the record at their front has all are one record
  pub one_found : size c ≡ length xs → Some c ≡ content_if (one_record xs)
  unfolding one_record
  one_found l =
      let r = record_of xs 0 c in
      let read = record_found xs 0 c e in
      let long : length (encode r) ≡ length xs = size_kept xs 0 c h ∙ l in
      let all : encode r ≡ xs = sym (part_octets xs 0 c octets e h) ∙ ap (λ n. take n xs) l ∙ take_whole xs in
      let t = (bytes_eq-Decides (encode r) xs).1 all in
      rw (read, t) (ap Some (sym (content_kept xs 0 c h)))
    where
      take_whole : (ys : List ℕ) → take (length ys) ys ≡ ys
      take_whole ys = ap (take (length ys)) (sym (append-nil ys)) ∙ take_at ys [] (length ys) refl

  pub none_found : (size c ≡ length xs → ⊥) → None ≡ content_if (one_record xs)
  unfolding one_record
  none_found l =
      let r = record_of xs 0 c in
      let read = record_found xs 0 c e in
      let long = size_kept xs 0 c h in
      let t : bytes_eq (encode r) xs ≡ false =
      ⊎_elim (λ a. absurd (l (sym long ∙ ap length ((bytes_eq-Decides (encode r) xs).0 a)))) (λ a. a) (cases_Bool (bytes_eq (encode r) xs)) in
      rw (read, t)

pub none_faulty : (xs : List ℕ) (f : Fault) → Err f ≡ content_at xs 0 → None ≡ content_if (one_record xs)
unfolding one_record
none_faulty xs f e = let read = record_faulty xs 0 f e in rw read

-- whatever the reader of the code answers is the content of the record there, or its fault
pub content_read_or_faulty : (xs : List ℕ) (at : ℕ) (r : Result RecordContent Fault) → said_or r ≡ content_at xs at → IfOk r (λ c. at + size (said c) ≤ length xs) → said_or r ≡ content_or (record_at xs at)
content_read_or_faulty xs at (Ok c) e h = content_found xs at (said c) e h
content_read_or_faulty xs at (Err f) e h = content_faulty xs at f e

-- a record that was read, as the part that its octets are
pub part_found : (xs part : List ℕ) (at n : ℕ) (c : Content) → Octets xs → Ok c ≡ content_at xs at → at + size c ≤ length xs → n ≡ size c → part ≡ block_at xs at n
    → Ok (record { octets = part; place = at }) ≡ part_at xs at
part_found xs part at n c octets e h l p =
    let read = record_found xs at c e in
    rw read (ap (λ z. Ok (record { octets = z; place = at })) (p ∙ ap (block_at xs at) l ∙ part_octets xs at c octets e h))

pub part_faulty : (xs : List ℕ) (at : ℕ) (f : Fault) → Err f ≡ content_at xs at → Err f ≡ part_at xs at
part_faulty xs at f e = let read = record_faulty xs at f e in rw read
