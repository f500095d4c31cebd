-- The lines of a PDU, one turn of the reader after the other.
use Rattle.std.proofs.Common.{◌≡◌, ℕ, zero, suc, ◌+◌, ◌<◌, ◌≤◌, Bool, true, false, cond, leb, List, [], ◌++◌, length, Some, None, Ok, Err, codes, Option, Result, sym, refl, ap, ◌∙◌, arith}
use Rattle.std.proofs.lemmas.Bool.{le-leb, leb-false}
use Rattle.std.proofs.lemmas.List.{append-nil}
use Rattle.codec.specs.declared.fault.Fault.{Fault}
use Rattle.codec.specs.Octets.{Octets}
use Rattle.codec.specs.Fields.{and_then}
use Rattle.codec.specs.Records.{Record, encode}
use Rattle.codec.specs.RecordReading.{content_of, content_or, record_at}
use Rattle.codec.specs.Reader.{Part, behind_part, next_part, next_cursor}
use Rattle.codec.proofs.RecordsRead.{record_read}
use Rattle.codec.proofs.RecordsWritten.{record_written, encode_some}
use Rattle.dump.specs.Lines.{fault_line, record_line, part_line, lines_behind, lines_from}

same_behind : (read : Result Record Fault) (at : ℕ) (f g : Record → List ℕ) → ((r : Record) → f r ≡ g r) → lines_behind read at f ≡ lines_behind read at g
same_behind (Ok r) at f g h = ap (λ l. record_line at (content_of r) ++ l) (h r)
same_behind (Err e) at f g h = refl

-- any number of turns that suffices gives the same lines
enough : (pdu : List ℕ) (m n at : ℕ) → length pdu ≤ at + m → length pdu ≤ at + n → lines_from m pdu at ≡ lines_from n pdu at
enough pdu zero zero at h k = refl
enough pdu zero (suc n) at h k = let t = le-leb (length pdu) at (omega arith) in rw t
enough pdu (suc m) zero at h k = let t = le-leb (length pdu) at (omega arith) in rw t
enough pdu (suc m) (suc n) at h k =
    ap (cond (leb (length pdu) at) (codes "end\n"))
    (same_behind (record_at pdu at) at _ _ (λ r. enough pdu m n (at + length (encode r)) (omega (arith, encode_some r)) (omega (arith, encode_some r))))

-- the octets of a record that was read read as that record again
reads_again : (pdu : List ℕ) → Octets pdu → (at : ℕ) (r : Record) → record_at pdu at ≡ Ok r → record_at (encode r) 0 ≡ Ok r
reads_again pdu octets at r e = record_written r (record_read pdu octets at r e).formed (encode r) [] 0 (sym (append-nil (encode r)))

-- over any test of the end and any reading
abbrev part : Result Record Fault → ℕ → Result Part Fault
part read at = and_then read (λ r. Ok (record { octets = encode r; place = at }))

abbrev answer : Bool → Result Record Fault → ℕ → Result (Option Part) Fault
answer ended read at = cond ended (Ok None) (and_then (part read at) (λ p. Ok (Some p)))

none_by : (ended : Bool) (read : Result Record Fault) (at : ℕ) (rest : Record → List ℕ) → answer ended read at ≡ Ok None → cond ended (codes "end\n") (lines_behind read at rest) ≡ codes "end\n"
none_by true read at rest h = refl
none_by false (Ok r) at rest h = let z : ◌≡◌ {A = ℕ} 0 1 = cc in absurd (omega arith)
none_by false (Err e) at rest h = let z : ◌≡◌ {A = ℕ} 0 1 = cc in absurd (omega arith)

fault_by : (ended : Bool) (read : Result Record Fault) (at : ℕ) (rest : Record → List ℕ) (f : Fault) → answer ended read at ≡ Err f → (ended ≡ false) × (cond ended (codes "end\n") (lines_behind read at rest) ≡ fault_line f)
fault_by true read at rest f h = let z : ◌≡◌ {A = ℕ} 0 1 = cc in absurd (omega arith)
fault_by false (Ok r) at rest f h = let z : ◌≡◌ {A = ℕ} 0 1 = cc in absurd (omega arith)
fault_by false (Err e) at rest f h = let same : e ≡ f = cc in (refl, ap fault_line same)

some_by : (ended : Bool) (read : Result Record Fault) (at : ℕ) (rest : ℕ → List ℕ) (p : Part) → ((r : Record) → read ≡ Ok r → record_at (encode r) 0 ≡ Ok r) → answer ended read at ≡ Ok (Some p)
    → (ended ≡ false) × (cond ended (codes "end\n") (lines_behind read at (λ r. rest (at + length (encode r)))) ≡ part_line p.place (content_or (record_at p.octets 0)) ++ rest (cond ended at (behind_part (part read at) at)))
    × (at < cond ended at (behind_part (part read at) at))
some_by true read at rest p again h = let z : ◌≡◌ {A = ℕ} 0 1 = cc in absurd (omega arith)
some_by false (Ok r) at rest p again h =
    let same : record { octets = encode r; place = at } ≡ p = cc in
    let line : part_line at (content_or (record_at (encode r) 0)) ≡ record_line at (content_of r) = ap (λ z. part_line at (content_or z)) (again r refl) in
    (refl, ap (λ l. l ++ rest (at + length (encode r))) (sym line ∙ ap (λ q. part_line q.place (content_or (record_at q.octets 0))) same), omega (arith, encode_some r))
some_by false (Err e) at rest p again h = let z : ◌≡◌ {A = ℕ} 0 1 = cc in absurd (omega arith)

module _ (pdu : List ℕ) (at : ℕ) where
  pub lines_end : (m : ℕ) → next_part pdu at ≡ Ok None → lines_from m pdu at ≡ codes "end\n"
  lines_end zero h = refl
  lines_end (suc m) h = none_by (leb (length pdu) at) (record_at pdu at) at _ h

  pub lines_fault : (m : ℕ) (f : Fault) → length pdu ≤ at + m → next_part pdu at ≡ Err f → lines_from m pdu at ≡ fault_line f
  lines_fault zero f l h = let a = fault_by (leb (length pdu) at) (record_at pdu at) at (λ _. []) f h in absurd (omega (arith, leb-false _ _ a.0))
  lines_fault (suc m) f l h = (fault_by (leb (length pdu) at) (record_at pdu at) at _ f h).1

  pub lines_part : (m : ℕ) (p : Part) → Octets pdu → length pdu ≤ at + m → next_part pdu at ≡ Ok (Some p)
      → lines_from m pdu at ≡ part_line p.place (content_or (record_at p.octets 0)) ++ lines_from m pdu (next_cursor pdu at)
  lines_part zero p octets l h =
      let a = some_by (leb (length pdu) at) (record_at pdu at) at (λ _. []) p (reads_again pdu octets at) h in
      absurd (omega (arith, leb-false _ _ a.0))
  lines_part (suc m) p octets l h =
      let a = some_by (leb (length pdu) at) (record_at pdu at) at (lines_from m pdu) p (reads_again pdu octets at) h in
      a.1 ∙ ap (λ z. part_line p.place (content_or (record_at p.octets 0)) ++ z) (enough pdu m (suc m) (next_cursor pdu at) (omega (arith, a.2)) (omega (arith, a.2)))
