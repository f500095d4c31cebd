-- The records of a PDU: reading what was joined, and joining what was read.
use Rattle.std.proofs.Common.{◌≡◌, ℕ, zero, suc, ◌+◌, ◌≤◌, leb, List, [], ◌∷◌, ◌++◌, length, drop, Ok, Err, Result, sym, refl, ap, ◌∙◌, subst, ⊎_elim, append_assoc, arith, length-append}
use Rattle.std.specs.List.{flat_map, AllByRecursion}
use Rattle.std.proofs.lemmas.Bool.{le-leb, lt-leb, leb-true}
use Rattle.std.proofs.lemmas.List.{drop_all, length-drop}
use Rattle.codec.specs.Octets.{Octets}
use Rattle.codec.specs.Records.{Record, encode, WellFormed}
use Rattle.codec.specs.RecordReading.{record_at, records_from, records_in, prepended}
use Rattle.codec.specs.declared.fault.Fault.{Fault}
use Rattle.codec.proofs.Results.{same_ok, and_then_ok, cond_cases}
use Rattle.codec.proofs.FieldsWritten.{behind}
use Rattle.codec.proofs.RecordsWritten.{record_written, encode_some}
use Rattle.codec.proofs.RecordsRead.{record_read}

fewer : (rs : List Record) → length rs ≤ length (flat_map encode rs)
fewer [] = omega arith
fewer (r ∷ rs) = omega (arith, encode_some r, fewer rs, length-append (encode r) (flat_map encode rs))

-- records that stand from a place to the end read as themselves
pub records_from_lem : (rs : List Record) (n : ℕ) (ys : List ℕ) (at : ℕ) → AllByRecursion WellFormed rs → length rs ≤ n → drop at ys ≡ flat_map encode rs → records_from n ys at ≡ Ok rs
records_from_lem [] zero ys at g f e = refl
records_from_lem [] (suc n) ys at g f e = let t = le-leb (length ys) at (omega (arith, length-drop at ys, ap length e)) in rw t
records_from_lem (r ∷ rs) zero ys at g f e = absurd (omega arith)
records_from_lem (r ∷ rs) (suc n) ys at g f e =
    let rest = flat_map encode rs in
    let t = lt-leb (length ys) at (omega (arith, length-drop at ys, ap length e, length-append (encode r) rest, encode_some r)) in
    let one = record_written r g.0 ys rest at e in
    let more = records_from_lem rs n ys (at + length (encode r)) g.1 (omega arith) (behind ys (encode r) rest at (length (encode r)) e refl) in
    rw (t, one, more)

-- reading the joined octets of well-formed records gives the records
pub records_written : (rs : List Record) → AllByRecursion WellFormed rs → records_in (flat_map encode rs) ≡ Ok rs
unfolding records_in
records_written rs g = records_from_lem rs (length (flat_map encode rs)) (flat_map encode rs) 0 g (fewer rs) refl

prepended_ok : (r : Record) (rest : Result (List Record) Fault) {rs : List Record} → prepended r rest ≡ Ok rs → (ss : List Record) × (rest ≡ Ok ss) × (r ∷ ss ≡ rs)
prepended_ok r (Ok ss) h = (ss, refl, same_ok h)
prepended_ok r (Err e) {rs} h = cc

module _ (xs : List ℕ) (octets : Octets xs) where
  abbrev Whole : ℕ → List Record → Type 0
  Whole at rs = AllByRecursion WellFormed rs × (drop at xs ≡ flat_map encode rs)

  records_whole : (n at : ℕ) (rs : List Record) → length xs ≤ at + n → records_from n xs at ≡ Ok rs → Whole at rs
  records_whole zero at rs f h = subst (Whole at) (same_ok h) (tt, drop_all at xs (omega arith))
  records_whole (suc n) at rs f h =
      ⊎_elim (λ a. subst (Whole at) (same_ok a.1) (tt, drop_all at xs (leb-true _ _ a.0)))
      (λ a.
      let b = and_then_ok (record_at xs at) _ a.1 in
      let r = b.0 in
      let c = prepended_ok r (records_from n xs (at + length (encode r))) b.2 in
      let one = record_read xs octets at r b.1 in
      let more = records_whole n (at + length (encode r)) c.0 (omega (arith, encode_some r)) c.1 in
      subst (Whole at) c.2 ((one.formed, more.0), one.stands.here ∙ ap (λ l. encode r ++ l) more.1))
      (cond_cases (leb (length xs) at) _ _ h)

-- what reads as records is well formed, and the joined octets of the records are the input
pub records_read : (xs : List ℕ) (rs : List Record) → Octets xs → records_in xs ≡ Ok rs → AllByRecursion WellFormed rs × (flat_map encode rs ≡ xs)
unfolding records_in
records_read xs rs octets h = let w = records_whole xs octets (length xs) 0 rs (omega arith) h in (w.0, sym w.1)

all_joined : (rs ss : List Record) → AllByRecursion WellFormed rs → AllByRecursion WellFormed ss → AllByRecursion WellFormed (rs ++ ss)
all_joined [] ss g h = h
all_joined (r ∷ rs) ss g h = (g.0, all_joined rs ss g.1 h)

pub joined_append : (rs ss : List Record) → flat_map encode (rs ++ ss) ≡ flat_map encode rs ++ flat_map encode ss
joined_append [] ss = refl
joined_append (r ∷ rs) ss = ap (λ l. encode r ++ l) (joined_append rs ss) ∙ sym (append_assoc (encode r) (flat_map encode rs) (flat_map encode ss))

-- two PDUs that read well, joined, read as the records of both
pub records_append : (a b : List ℕ) (rs ss : List Record) → Octets a → Octets b → records_in a ≡ Ok rs → records_in b ≡ Ok ss → records_in (a ++ b) ≡ Ok (rs ++ ss)
records_append a b rs ss oa ob ha hb =
    let f = records_read a rs oa ha in
    let s = records_read b ss ob hb in
    ap records_in ((λ i. sym f.1 i ++ sym s.1 i) ∙ sym (joined_append rs ss)) ∙ records_written (rs ++ ss) (all_joined rs ss f.0 s.0)
