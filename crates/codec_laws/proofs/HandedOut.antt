-- What the reader hands out are the records of the PDU.
use Rattle.std.proofs.Common.{◌≡◌, ℕ, zero, suc, ◌+◌, Bool, true, false, cond, leb, List, [], length, Some, None, Ok, Err, Result, refl, ap, ◌∙◌}
use Rattle.codec.specs.declared.fault.Fault.{Fault}
use Rattle.codec.specs.Fields.{and_then}
use Rattle.codec.specs.Records.{Record, encode}
use Rattle.codec.specs.RecordReading.{record_at, records_from, records_in, prepended}
use Rattle.codec.specs.Reader.{Part, behind_part, collected, handed_out, parts_or}
use Rattle.codec_laws.specs.Laws.{ReaderHandsOutRecords}

-- a record and what follows it, as parts
parts_prepended : (at : ℕ) (r : Record) (rest : Result (List Record) Fault)
    → collected (Ok (Some (record { octets = encode r; place = at }))) (parts_or (at + length (encode r)) rest) ≡ parts_or at (prepended r rest)
parts_prepended at r (Ok rs) = refl
parts_prepended at r (Err e) = refl

-- one step, whatever stands at the cursor
abbrev step : Bool → Result Record Fault → ℕ → (ℕ → Result (List Part) Fault) → Result (List Part) Fault
step ended read at rest =
    let part = and_then read (λ r. Ok (record { octets = encode r; place = at })) in
    collected (cond ended (Ok None) (and_then part (λ p. Ok (Some p)))) (rest (cond ended at (behind_part part at)))

stepped : (ended : Bool) (read : Result Record Fault) (at : ℕ) (rest : ℕ → Result (List Part) Fault) (more : Record → Result (List Record) Fault)
    → ((r : Record) → rest (at + length (encode r)) ≡ parts_or (at + length (encode r)) (more r))
    → step ended read at rest ≡ parts_or at (cond ended (Ok []) (and_then read (λ r. prepended r (more r))))
stepped true read at rest more h = refl
stepped false (Ok r) at rest more h = ap (collected (Ok (Some (record { octets = encode r; place = at })))) (h r) ∙ parts_prepended at r (more r)
stepped false (Err e) at rest more h = refl

pub handed_out_lem : (n : ℕ) (pdu : List ℕ) (at : ℕ) → handed_out n pdu at ≡ parts_or at (records_from n pdu at)
handed_out_lem zero pdu at = refl
handed_out_lem (suc n) pdu at =
    stepped (leb (length pdu) at) (record_at pdu at) at (handed_out n pdu) (λ r. records_from n pdu (at + length (encode r)))
    (λ r. handed_out_lem n pdu (at + length (encode r)))

pub reader_hands_out_records : ReaderHandsOutRecords
unfolding records_in
reader_hands_out_records pdu = handed_out_lem (length pdu) pdu 0
