-- Fields read at a place of an input: presence before value, and the fault where one or the other is missing.
use Rattle.std.specs.Prelude.{ℕ, ◌+◌, ◌*◌, Bool, cond, List, length, Some, None, Ok, Err, Option, Result, ◌==◌, nat_le, slice_index}
use Rattle.std.specs.Borrow.{Bor}
use Rattle.codec.specs.Limits.{millisecond_limit, microsecond_limit}
use Rattle.codec.specs.Blocks.{block_at}
use Rattle.codec.specs.Times.{Stamp}
use Rattle.codec.specs.declared.fault.Fault.{Fault}
use Rattle.codec.specs.declared.fault.FaultKind.{FaultKind}
use Rattle.codec.specs.declared.fault.FaultKind.TheVariants.{Short, Value}

-- A fault by its kind and its place.
abbrev pub fault : FaultKind → ℕ → Fault
fault kind place = record { kind = kind; place = place }

-- A field of n octets has its value where they are all there; else the input is too short, at its length.
abbrev pub present : {X : Type 0} → List ℕ → ℕ → ℕ → X → Result X Fault
present xs at n value = cond (nat_le (at + n) (length xs)) (Ok value) (Err (fault Short (length xs)))

-- The first fault, or else what is read next.
abbrev pub and_then : {X Y : Type 0} → Result X Fault → (X → Result Y Fault) → Result Y Fault
and_then (Ok x) next = next x
and_then (Err e) next = Err e

-- What is read next where a value may be so; else a fault of value at its field's place.
abbrev pub provided : {X : Type 0} → Bool → ℕ → Result X Fault → Result X Fault
provided allowed at next = cond allowed next (Err (fault Value at))

-- A value that an octet stands for, or a fault of value where it stands for none.
abbrev pub or_value_fault : {X : Type 0} → Option X → ℕ → Result X Fault
or_value_fault (Some x) at = Ok x
or_value_fault None at = Err (fault Value at)

-- The number of two and of four octets from a place on, the high octet first.
abbrev pub two_octet_number : List ℕ → ℕ → ℕ
two_octet_number xs at = slice_index xs at * 256 + slice_index xs (at + 1)

abbrev pub four_octet_number : List ℕ → ℕ → ℕ
four_octet_number xs at = slice_index xs at * 16777216 + slice_index xs (at + 1) * 65536 + slice_index xs (at + 2) * 256 + slice_index xs (at + 3)

-- The field of n octets at a place, and what the code answers of it.
abbrev pub octets_at : List ℕ → ℕ → ℕ → Result (List ℕ) Fault
octets_at xs at n = present xs at n (block_at xs at n)

abbrev pub octets_or : Result (Bor (List ℕ)) Fault → Result (List ℕ) Fault
octets_or (Ok field) = Ok field.now
octets_or (Err e) = Err e

-- The fields of one, two and four octets at a place.
abbrev pub octet_at : List ℕ → ℕ → Result ℕ Fault
octet_at xs at = present xs at 1 (slice_index xs at)

abbrev pub two_octets_at : List ℕ → ℕ → Result ℕ Fault
two_octets_at xs at = present xs at 2 (two_octet_number xs at)

abbrev pub four_octets_at : List ℕ → ℕ → Result ℕ Fault
four_octets_at xs at = present xs at 4 (four_octet_number xs at)

-- The field of a value that an octet stands for.
abbrev pub value_at : {X : Type 0} → (ℕ → Option X) → List ℕ → ℕ → Result X Fault
value_at value_of xs at = and_then (octet_at xs at) (λ n. or_value_fault (value_of n) at)

-- A field that has to be the octet 0.
abbrev pub zero_at : List ℕ → ℕ → Result (Unit {0}) Fault
zero_at xs at = and_then (octet_at xs at) (λ n. provided (n == 0) at (Ok tt))

-- The time at a place.
abbrev pub stamp_at : List ℕ → ℕ → Result Stamp Fault
stamp_at xs at =
    and_then (two_octets_at xs at) (λ d.
    and_then (four_octets_at xs (at + 2)) (λ ms.
    provided (nat_le ms millisecond_limit) (at + 2) (
    and_then (two_octets_at xs (at + 6)) (λ us.
    provided (nat_le us microsecond_limit) (at + 6) (
    Ok (record { day = d; millisecond = ms; microsecond = us }))))))

-- That the time at a place has all its fields zero.
abbrev pub zero_stamp_at : List ℕ → ℕ → Result (Unit {0}) Fault
zero_stamp_at xs at =
    and_then (two_octets_at xs at) (λ d.
    provided (d == 0) at (
    and_then (four_octets_at xs (at + 2)) (λ ms.
    provided (ms == 0) (at + 2) (
    and_then (two_octets_at xs (at + 6)) (λ us.
    provided (us == 0) (at + 6) (Ok tt))))))
