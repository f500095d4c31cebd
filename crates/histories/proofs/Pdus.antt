-- How long PDUs are, and how they read one after the other.
use Rattle.std.proofs.Common.{◌≡◌, ℕ, ◌*◌, ◌≤◌, List, [], ◌∷◌, ◌++◌, length, Some, None, Ok, Err, Option, Result, sym, refl, ap, ◌∙◌, append_assoc, append-nil, arith}
use Rattle.std.specs.List.{AllByRecursion}
use Rattle.std.proofs.lemmas.List.{length-append}
use Rattle.codec.specs.declared.fault.Fault.{Fault}
use Rattle.codec.specs.Limits.{longest_record}
use Rattle.codec.specs.Records.{Record, encode, WellFormed}
use Rattle.codec.specs.RecordReading.{records_in}
use Rattle.codec.proofs.RecordsWritten.{encode_some, encode_limit}
use Rattle.histories.specs.Delivery.{transfer_pdu}
use Rattle.histories.specs.Statements.{join_readings, records_of}

-- a PDU has an octet for each of its records, and at most as many as so many longest records
pub pdu_bounds : (rs : List Record) → AllByRecursion WellFormed rs → (length rs ≤ length (transfer_pdu rs)) × (length (transfer_pdu rs) ≤ length rs * longest_record)
pdu_bounds [] w = (omega arith, omega arith)
pdu_bounds (r ∷ rs) w =
    let rest = pdu_bounds rs w.1 in
    let both = length-append (encode r) (transfer_pdu rs) in
    let low = encode_some r in
    let high = encode_limit r w.0 in
    (omega arith, omega arith)

records_append : (ps qs : List (List ℕ)) (rs ss : List Record) → records_of ps ≡ Some rs → records_of qs ≡ Some ss → records_of (ps ++ qs) ≡ Some (rs ++ ss)
records_append [] qs rs ss e f = let none : [] ≡ rs = cc in f ∙ ap {B = Option (List Record)} (λ (x : List Record). Some (x ++ ss)) none
records_append (p ∷ ps) qs rs ss e f = go (records_in p) (records_of ps) (records_of (ps ++ qs)) e (λ more h. records_append ps qs more ss h f)
  where
    go : (a : Result (List Record) Fault) (b c : Option (List Record)) → join_readings a b ≡ Some rs → ((more : List Record) → b ≡ Some more → c ≡ Some (more ++ ss)) → join_readings a c ≡ Some (rs ++ ss)
    go (Err x) b c h k = cc
    go (Ok x) None c h k = cc
    go (Ok x) (Some y) c h k =
        let same : x ++ y ≡ rs = cc in
        ap (λ (t : Option (List Record)). join_readings (Ok x) t) (k y refl)
        ∙ ap {B = Option (List Record)} Some (sym (append_assoc x y ss) ∙ ap (λ (t : List Record). t ++ ss) same)

-- one PDU more
pub records_push : (ps : List (List ℕ)) (p : List ℕ) (rs ss : List Record) → records_of ps ≡ Some rs → records_in p ≡ Ok ss → records_of (ps ++ p ∷ []) ≡ Some (rs ++ ss)
records_push ps p rs ss e f =
    records_append ps (p ∷ []) rs ss e
    (ap (λ (x : Result (List Record) Fault). join_readings x (Some [])) f ∙ ap {B = Option (List Record)} Some (append-nil ss))
