-- Times: the three numbers of a day segmented time, their limits, their order and their octets.
use Rattle.std.specs.Prelude.{ℕ, ◌/◌, ◌%◌, Bool, cond, ◌&&◌, List, [], ◌∷◌, ◌++◌, Some, None, Ok, Err, Option, Result, nat_le}
use Rattle.std.specs.Ordering.{nat_cmp, ordering_then}
use Rattle.std.specs.declared.cmp.Ordering.{Ordering}
use Rattle.codec.specs.Limits.{day_limit, millisecond_limit, microsecond_limit}
use Rattle.codec.specs.declared.time.Time.{Time}
use Rattle.codec.specs.declared.time.TimeField.{TimeField}
use Rattle.codec.specs.declared.time.TimeField.TheVariants.{Millisecond, Microsecond}

-- A time by its three numbers, within the limits or not.
pub record Stamp : Type 0 where
  pub day : ℕ
  pub millisecond : ℕ
  pub microsecond : ℕ

-- The stamp whose numbers are all zero.
abbrev pub zero_stamp : Stamp
zero_stamp = record { day = 0; millisecond = 0; microsecond = 0 }

-- Whether each number is within its limit.
abbrev pub timely : Stamp → Bool
timely t = nat_le t.day day_limit && (nat_le t.millisecond millisecond_limit && nat_le t.microsecond microsecond_limit)

-- The numbers of a time of the code, of one that may be absent, and of what a constructor or a reader answers.
abbrev pub stamp : Time → Stamp
stamp t = record { day = t.day; millisecond = t.millisecond; microsecond = t.microsecond }

abbrev pub stamp_if : Option Time → Option Stamp
stamp_if (Some t) = Some (stamp t)
stamp_if None = None

abbrev pub stamp_or : {E : Type 0} → Result Time E → Result Stamp E
stamp_or (Ok t) = Ok (stamp t)
stamp_or (Err e) = Err e

abbrev pub stamp_if_or : {E : Type 0} → Result (Option Time) E → Result (Option Stamp) E
stamp_if_or (Ok t) = Ok (stamp_if t)
stamp_if_or (Err e) = Err e

-- The stamp of three numbers of which the day fits its octets, or the first number that is beyond its limit.
abbrev pub checked_stamp : ℕ → ℕ → ℕ → Result Stamp TimeField
checked_stamp d ms us =
    cond (nat_le ms millisecond_limit)
    (cond (nat_le us microsecond_limit) (Ok (record { day = d; millisecond = ms; microsecond = us })) (Err Microsecond))
    (Err Millisecond)

-- How one stamp stands to another: by day, millisecond and microsecond in turn.
abbrev pub compared : Stamp → Stamp → Ordering
compared a b =
    ordering_then (nat_cmp a.day b.day)
    (ordering_then (nat_cmp a.millisecond b.millisecond) (nat_cmp a.microsecond b.microsecond))

-- A number in two and in four octets, the high octet first.
abbrev pub two_octets : ℕ → List ℕ
two_octets n = n / 256 % 256 ∷ n % 256 ∷ []

abbrev pub four_octets : ℕ → List ℕ
four_octets n = n / 16777216 % 256 ∷ n / 65536 % 256 ∷ n / 256 % 256 ∷ n % 256 ∷ []

-- The eight octets of a stamp.
abbrev pub stamp_octets : Stamp → List ℕ
stamp_octets t = two_octets t.day ++ (four_octets t.millisecond ++ two_octets t.microsecond)
