-- Counting the records that the reader hands out.
use Rattle.std.proofs.Common.{◌≡◌, ℕ, zero, suc, ◌+◌, ◌<◌, Bool, true, false, cond, leb, List, [], length, Some, None, Ok, Err, Option, Result, sym, refl, ap, add_assoc, arith}
use Rattle.std.proofs.lemmas.Bool.{leb-false}
use Rattle.codec.specs.declared.fault.Fault.{Fault}
use Rattle.codec.specs.Fields.{and_then}
use Rattle.codec.specs.Records.{Record, encode}
use Rattle.codec.specs.RecordReading.{record_at, records_from, prepended}
use Rattle.codec.specs.Reader.{Part, behind_part, next_part, next_cursor, count_or}
use Rattle.codec.proofs.RecordsWritten.{encode_some}

-- a count, or a fault, after n records
abbrev pub after : ℕ → Result ℕ Fault → Result ℕ Fault
after n (Ok k) = Ok (n + k)
after n (Err e) = Err e

pub after_none : (r : Result ℕ Fault) → r ≡ after 0 r
after_none (Ok k) = ap Ok (omega arith)
after_none (Err e) = refl

pub after_one_more : (n : ℕ) (r : Result ℕ Fault) → after n (after 1 r) ≡ after (n + 1) r
after_one_more n (Ok k) = ap Ok (sym (add_assoc n 1 k))
after_one_more n (Err e) = refl

count_prepended : (r : Record) (rest : Result (List Record) Fault) → count_or (prepended r rest) ≡ after 1 (count_or rest)
count_prepended r (Ok rs) = ap Ok (omega arith)
count_prepended r (Err e) = refl

-- over any test of the end and any reading
abbrev part : Result Record Fault → ℕ → Result Part Fault
part read at = and_then read (λ r. Ok (record { octets = encode r; place = at }))

abbrev answer : Bool → Result Record Fault → ℕ → Result (Option Part) Fault
answer ended read at = cond ended (Ok None) (and_then (part read at) (λ p. Ok (Some p)))

abbrev records : Bool → Result Record Fault → (Record → Result (List Record) Fault) → Result (List Record) Fault
records ended read more = cond ended (Ok []) (and_then read (λ r. prepended r (more r)))

none_by : (ended : Bool) (read : Result Record Fault) (at : ℕ) (more : Record → Result (List Record) Fault) → answer ended read at ≡ Ok None → count_or (records ended read more) ≡ Ok 0
none_by true read at more h = refl
none_by false (Ok r) at more h = cc
none_by false (Err e) at more h = cc

fault_by : (ended : Bool) (read : Result Record Fault) (at : ℕ) (more : Record → Result (List Record) Fault) (e : Fault) → answer ended read at ≡ Err e → (ended ≡ false) × (count_or (records ended read more) ≡ Err e)
fault_by true read at more e h = cc
fault_by false (Ok r) at more e h = cc
fault_by false (Err d) at more e h = let same : d ≡ e = cc in (refl, ap Err same)

some_by : (ended : Bool) (read : Result Record Fault) (at : ℕ) (rest : ℕ → Result (List Record) Fault) (p : Part) → answer ended read at ≡ Ok (Some p)
    → (ended ≡ false) × (count_or (records ended read (λ r. rest (at + length (encode r)))) ≡ after 1 (count_or (rest (cond ended at (behind_part (part read at) at)))))
    × (at < cond ended at (behind_part (part read at) at))
some_by true read at rest p h = cc
some_by false (Ok r) at rest p h = (refl, count_prepended r (rest (at + length (encode r))), omega (arith, encode_some r))
some_by false (Err e) at rest p h = cc

module _ (xs : List ℕ) (at : ℕ) where
  pub count_none : (m : ℕ) → next_part xs at ≡ Ok None → count_or (records_from m xs at) ≡ Ok 0
  count_none zero h = refl
  count_none (suc m) h = none_by (leb (length xs) at) (record_at xs at) at _ h

  pub count_fault : (m : ℕ) (e : Fault) → next_part xs at ≡ Err e → (at < length xs → 0 < m) → count_or (records_from m xs at) ≡ Err e
  count_fault zero e h s = let a = fault_by (leb (length xs) at) (record_at xs at) at (λ _. Ok []) e h in absurd (omega (arith, s (leb-false _ _ a.0)))
  count_fault (suc m) e h s = (fault_by (leb (length xs) at) (record_at xs at) at _ e h).1

  pub count_some : (m : ℕ) (p : Part) → next_part xs at ≡ Ok (Some p) → (at < length xs) × (count_or (records_from (suc m) xs at) ≡ after 1 (count_or (records_from m xs (next_cursor xs at)))) × (at < next_cursor xs at)
  count_some m p h = let a = some_by (leb (length xs) at) (record_at xs at) at (records_from m xs) p h in (leb-false _ _ a.0, a.1, a.2)
