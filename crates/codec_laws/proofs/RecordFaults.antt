-- Where the faults of a PDU lie.
use Rattle.std.proofs.Common.{◌≡◌, ℕ, zero, suc, ◌+◌, ◌<◌, ◌≤◌, leb, List, [], ◌∷◌, length, take, Ok, Err, Result, sym, refl, ap, ◌∙◌, ⊎_elim, arith}
use Rattle.std.proofs.lemmas.Bool.{le-leb, lt-leb}
use Rattle.std.proofs.lemmas.List.{length-take-le}
use Rattle.codec.specs.Fields.{fault, and_then}
use Rattle.codec.specs.Records.{Record, encode}
use Rattle.codec.specs.RecordReading.{record_at, records_from, records_in, prepended}
use Rattle.codec_laws.specs.Laws.{RecordFaultsHaveTheirPlace, FaultOfRecords}
use Rattle.codec.specs.declared.fault.Fault.{Fault}
use Rattle.codec.specs.declared.fault.FaultKind.{FaultKind}
use Rattle.codec.specs.declared.fault.FaultKind.TheVariants.{Short, Mark, Value, Extra}
use Rattle.codec.proofs.Results.{cond_cases}
use Rattle.codec_laws.proofs.Steady.{Allowed, ok_or_err, same_err}
use Rattle.codec.proofs.RecordsWritten.{encode_some}
use Rattle.codec_laws.proofs.RecordsSteady.{record_steady}

-- one step of the reading of many
ended : (n : ℕ) (ys : List ℕ) (at : ℕ) → length ys ≤ at → records_from n ys at ≡ Ok []
ended zero ys at h = refl
ended (suc n) ys at h = let t = le-leb (length ys) at h in rw t

stepped : (n : ℕ) (ys : List ℕ) (at : ℕ) (read : Result Record Fault) → at < length ys → record_at ys at ≡ read
    → records_from (suc n) ys at ≡ and_then read (λ r. prepended r (records_from n ys (at + length (encode r))))
stepped n ys at read h e = let t = lt-leb (length ys) at h in rw (t, e)

prepended_err : (r : Record) (rest : Result (List Record) Fault) {f : Fault} → prepended r rest ≡ Err f → rest ≡ Err f
prepended_err r (Ok rs) {f} h = cc
prepended_err r (Err e) h = ap Err (same_err h)

module _ (xs : List ℕ) where
  -- the fault of the records from a place on, and how the octets before it read with so many turns left
  abbrev Verdict : ℕ → ℕ → FaultKind → ℕ → Type 0
  Verdict n at Short place = place ≡ length xs
  Verdict n at Mark place = (at ≤ place) × (place < length xs) × ((rs : List Record) × (records_from n (take place xs) at ≡ Ok rs))
  Verdict n at Value place = (at ≤ place) × (place < length xs) × (records_from n (take place xs) at ≡ Err (fault Short place))
  Verdict n at Extra place = ⊥

  -- a value at fault, in the first record: the cut leaves it too short
  value_cut : (n at place : ℕ) → record_at xs at ≡ Err (fault Value place) → at < place → place < length xs → place ≤ at + n → records_from n (take place xs) at ≡ Err (fault Short place)
  value_cut zero at place e low high turns = absurd (omega arith)
  value_cut (suc n) at place e low high turns =
      let long = length-take-le place xs (omega arith) in
      let steady = record_steady at in
      ⊎_elim (λ same. let inside = steady.sound (take place xs) (omega arith) (fault Value place) (same ∙ e) in absurd (omega (arith, inside.1)))
      (λ short. stepped n (take place xs) at (Err (fault Short place)) (omega arith) short)
      (steady.cut xs place (omega arith) (omega arith))

  -- the first record is at fault
  here : (n at : ℕ) (kind : FaultKind) (place : ℕ) → record_at xs at ≡ Err (fault kind place) → Allowed at (length xs) kind place → place ≤ at + n → Verdict n at kind place
  here n at Short place e a turns = a
  here n at Mark place e a turns = (omega (arith, a.0), omega (arith, a.0, a.1), ([], ended n (take place xs) at (omega (arith, length-take-le place xs (omega (arith, a.0, a.1)), a.0))))
  here n at Value place e a turns = (omega (arith, a.0), a.1, value_cut n at place e a.0 a.1 turns)
  here n at Extra place e a turns = a

  -- a record before the fault reads as before
  module _ (n at : ℕ) (r : Record) (e : record_at xs at ≡ Ok r) (inside : at ≤ length xs) where
    abbrev behind : ℕ
    behind = at + length (encode r)

    more : (place : ℕ) → behind ≤ place → place < length xs → records_from (suc n) (take place xs) at ≡ prepended r (records_from n (take place xs) behind)
    more place low high =
        let long = length-take-le place xs (omega arith) in
        let read = (record_steady at).kept xs place (omega arith) (omega arith) r e low in
        stepped n (take place xs) at (Ok r) (omega (arith, encode_some r)) read

    there : (kind : FaultKind) (place : ℕ) → Verdict n behind kind place → Verdict (suc n) at kind place
    there Short place v = v
    there Mark place v = (omega (arith, v.0), v.1, (r ∷ v.2.0, more place v.0 v.1 ∙ ap (prepended r) v.2.1))
    there Value place v = (omega (arith, v.0), v.1, more place v.0 v.1 ∙ ap (prepended r) v.2)
    there Extra place v = v

    -- no turns left: the fault would lie before the record
    out_of_turns : (kind : FaultKind) (place : ℕ) → place ≤ at → Verdict 0 behind kind place → Verdict 0 at kind place
    out_of_turns Short place h v = v
    out_of_turns Mark place h v = absurd (omega (arith, v.0, encode_some r))
    out_of_turns Value place h v = absurd (omega (arith, v.0, encode_some r))
    out_of_turns Extra place h v = v

  lifted : (n at : ℕ) (r : Record) (kind : FaultKind) (place : ℕ) → record_at xs at ≡ Ok r → at ≤ length xs → place ≤ at + n
      → ((m : ℕ) → place ≤ at + length (encode r) + m → Verdict m (at + length (encode r)) kind place) → Verdict n at kind place
  lifted zero at r kind place e inside turns v = out_of_turns 0 at r e inside kind place (omega arith) (v 0 (omega arith))
  lifted (suc n) at r kind place e inside turns v = there n at r e inside kind place (v n (omega (arith, encode_some r)))

  records_fault : (n at : ℕ) (f : Fault) → at ≤ length xs → records_from n xs at ≡ Err f → (m : ℕ) → f.place ≤ at + m → Verdict m at f.kind f.place
  records_fault zero at f inside h m turns = cc
  records_fault (suc n) at f inside h m turns =
      ⊎_elim (λ a. cc)
      (λ a.
      ⊎_elim (λ b.
      let r = b.0 in
      let rest = prepended_err r (records_from n xs (at + length (encode r))) (sym (ap (λ z. and_then z (λ s. prepended s (records_from n xs (at + length (encode s))))) b.1) ∙ a.1) in
      lifted m at r f.kind f.place b.1 inside turns
      (records_fault n (at + length (encode r)) f ((record_steady at).far xs inside r b.1).1 rest))
      (λ b.
      let same = same_err (sym (ap (λ z. and_then z (λ s. prepended s (records_from n xs (at + length (encode s))))) b.1) ∙ a.1) in
      let read = b.1 ∙ ap Err same in
      here m at f.kind f.place read ((record_steady at).sound xs inside f read) turns)
      (ok_or_err (record_at xs at)))
      (cond_cases (leb (length xs) at) _ _ h)

  settled : (kind : FaultKind) (place : ℕ) → Verdict place 0 kind place → FaultOfRecords xs kind place
  unfolding records_in
  settled Short place v = v
  settled Mark place v = (v.1, (v.2.0, ap (λ n. records_from n (take place xs) 0) (length-take-le place xs (omega (arith, v.1))) ∙ v.2.1))
  settled Value place v = (v.1, ap (λ n. records_from n (take place xs) 0) (length-take-le place xs (omega (arith, v.1))) ∙ v.2)
  settled Extra place v = v

pub record_faults_have_their_place : RecordFaultsHaveTheirPlace
unfolding records_in
record_faults_have_their_place xs f h = settled xs f.kind f.place (records_fault xs (length xs) 0 f (omega arith) h f.place (omega arith))
