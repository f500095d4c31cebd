-- The readers of fields are steady.
use Rattle.std.proofs.Common.{ℕ, ◌+◌, ◌*◌, ◌<◌, eqb, leb, get_or, Some, None, Option, refl, arith}
use Rattle.std.proofs.lemmas.List.{get_or-take}
use Rattle.codec.specs.Limits.{time_length, millisecond_limit, microsecond_limit}
use Rattle.codec.specs.Fields.{or_value_fault, octet_at, two_octets_at, four_octets_at, two_octet_number, four_octet_number, stamp_at, zero_stamp_at}
use Rattle.codec_laws.proofs.Steady.{Steady, steady_then, steady_cond, steady_value, steady_ok, steady_present, steady_from}

module _ (mark : ℕ) where
  pub octet_steady : (at : ℕ) → Steady mark at (λ xs. octet_at xs at) (λ _. at + 1)
  octet_steady at = steady_present mark at 1 (λ xs. get_or xs at 0) (λ xs h. refl) (λ xs p h k. get_or-take p xs at 0 (omega arith))

  pub two_octets_steady : (at : ℕ) → Steady mark at (λ xs. two_octets_at xs at) (λ _. at + 2)
  two_octets_steady at = steady_present mark at 2 (λ xs. two_octet_number xs at) (λ xs h. refl)
      (λ xs p h k. λ i. get_or-take p xs at 0 (omega arith) i * 256 + get_or-take p xs (at + 1) 0 (omega arith) i)

  pub four_octets_steady : (at : ℕ) → Steady mark at (λ xs. four_octets_at xs at) (λ _. at + 4)
  four_octets_steady at = steady_present mark at 4 (λ xs. four_octet_number xs at) (λ xs h. refl)
      (λ xs p h k. λ i. get_or-take p xs at 0 (omega arith) i * 16777216 + get_or-take p xs (at + 1) 0 (omega arith) i * 65536 + get_or-take p xs (at + 2) 0 (omega arith) i * 256 + get_or-take p xs (at + 3) 0 (omega arith) i)

  -- a value that an octet stands for, or a fault at its field
  pub value_steady : {X : Type 0} {m : ℕ} (o : Option X) (at : ℕ) → mark < at → at < m → Steady mark m (λ xs. or_value_fault o at) (λ _. m)
  value_steady (Some x) at low high = steady_ok mark (λ xs. x) (λ xs h. refl) (λ xs p h k. refl)
  value_steady None at low high = steady_value mark at low high

  pub stamp_steady : (at : ℕ) → mark < at → Steady mark at (λ xs. stamp_at xs at) (λ _. at + time_length)
  stamp_steady at low =
      steady_then mark (two_octets_steady at) (λ d.
      steady_then mark (four_octets_steady (at + 2)) (λ ms.
      steady_cond mark (leb ms millisecond_limit)
      (steady_from mark {m = at + 6} (omega arith) (steady_then mark (two_octets_steady (at + 6)) (λ us.
      steady_cond mark (leb us microsecond_limit)
      (steady_ok mark (λ xs. record { day = d; millisecond = ms; microsecond = us }) (λ xs h. omega arith) (λ xs p h k. refl))
      (steady_value mark (at + 6) (omega arith) (omega arith)))))
      (steady_value mark (at + 2) (omega arith) (omega arith))))

  pub zero_stamp_steady : (at : ℕ) → mark < at → Steady mark at (λ xs. zero_stamp_at xs at) (λ _. at + time_length)
  zero_stamp_steady at low =
      steady_then mark (two_octets_steady at) (λ d.
      steady_cond mark (eqb d 0)
      (steady_then mark (four_octets_steady (at + 2)) (λ ms.
      steady_cond mark (eqb ms 0)
      (steady_from mark {m = at + 6} (omega arith) (steady_then mark (two_octets_steady (at + 6)) (λ us.
      steady_cond mark (eqb us 0)
      (steady_ok mark (λ xs. tt) (λ xs h. omega arith) (λ xs p h k. refl))
      (steady_value mark (at + 6) (omega arith) (omega arith)))))
      (steady_value mark (at + 2) (omega arith) (omega arith))))
      (steady_value mark at low (omega arith)))
