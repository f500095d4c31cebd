-- The record reader over a PDU: what it hands out at its cursor, and where its cursor stands afterwards.
use Rattle.std.specs.Prelude.{ℕ, zero, suc, ◌+◌, cond, List, [], ◌∷◌, length, Some, None, Ok, Err, Option, Result, nat_le}
use Rattle.codec.specs.Fields.{and_then}
use Rattle.codec.specs.Records.{Record, encode}
use Rattle.codec.specs.RecordReading.{record_at}
use Rattle.codec.specs.declared.fault.Fault.{Fault}
use Rattle.codec.specs.declared.record.RecordPart.{RecordPart}

-- A part of a PDU: its octets, and the place at which it begins.
pub record Part : Type 0 where
  pub octets : List ℕ
  pub place : ℕ

-- The parts that the code hands out.
abbrev pub part_of : RecordPart → Part
part_of part = record { octets = part.octets.now; place = part.place }

abbrev pub part_or : Result RecordPart Fault → Result Part Fault
part_or (Ok part) = Ok (part_of part)
part_or (Err e) = Err e

abbrev pub part_if_or : Result (Option RecordPart) Fault → Result (Option Part) Fault
part_if_or (Ok (Some part)) = Ok (Some (part_of part))
part_if_or (Ok None) = Ok None
part_if_or (Err e) = Err e

-- The record at a place by its octets and its place, or its fault.
abbrev pub part_at : List ℕ → ℕ → Result Part Fault
part_at pdu at = and_then (record_at pdu at) (λ r. Ok (record { octets = encode r; place = at }))

-- What is handed out: at the PDU's end none, else the record at the cursor.
abbrev pub next_part : List ℕ → ℕ → Result (Option Part) Fault
next_part pdu at = cond (nat_le (length pdu) at) (Ok None) (and_then (part_at pdu at) (λ part. Ok (Some part)))

-- The cursor afterwards: behind the part that was handed out; a fault does not move it, nor does the end.
abbrev pub behind_part : Result Part Fault → ℕ → ℕ
behind_part (Ok part) at = at + length part.octets
behind_part (Err e) at = at

abbrev pub next_cursor : List ℕ → ℕ → ℕ
next_cursor pdu at = cond (nat_le (length pdu) at) at (behind_part (part_at pdu at) at)

-- One part after the other, from a place on, at most n of them: what the reader hands out until its end or a fault.
abbrev pub collected : Result (Option Part) Fault → Result (List Part) Fault → Result (List Part) Fault
collected (Ok None) rest = Ok []
collected (Ok (Some part)) (Ok parts) = Ok (part ∷ parts)
collected (Ok (Some part)) (Err e) = Err e
collected (Err e) rest = Err e

abbrev pub handed_out : ℕ → List ℕ → ℕ → Result (List Part) Fault
handed_out zero pdu at = Ok []
handed_out (suc n) pdu at = collected (next_part pdu at) (handed_out n pdu (next_cursor pdu at))

-- Records as the parts of their joined octets, the first at a place.
abbrev pub parts_of : ℕ → List Record → List Part
parts_of at [] = []
parts_of at (r ∷ rs) = record { octets = encode r; place = at } ∷ parts_of (at + length (encode r)) rs

abbrev pub parts_or : ℕ → Result (List Record) Fault → Result (List Part) Fault
parts_or at (Ok rs) = Ok (parts_of at rs)
parts_or at (Err e) = Err e

-- How many records were read.
abbrev pub count_or : Result (List Record) Fault → Result ℕ Fault
count_or (Ok rs) = Ok (length rs)
count_or (Err e) = Err e
