-- What the leading octets of an invocation decide.
use Rattle.std.proofs.Common.{◌≡◌, ℕ, ◌≤◌, List, length, get_or, Ok, ap, ◌∙◌, arith}
use Rattle.std.proofs.lemmas.Bool.{le-leb}
use Rattle.codec.specs.Fields.{and_then, two_octet_number, two_octets_at}
use Rattle.codec.specs.Invocations.{start_operation, stop_operation, bind_operation, unbind_operation, abort_operation}
use Rattle.codec.specs.InvocationReading.{request_in, operation_in, start_at, stop_at, bind_at, unbind_at, abort_at}

-- behind the mark the operation decides
module _ (xs : List ℕ) (l : 3 ≤ length xs) (high : get_or xs 0 0 ≡ 0x49) (low : get_or xs 1 0 ≡ 0x56) where
  pub marked : (operation : ℕ) → get_or xs 2 0 ≡ operation → request_in xs ≡ operation_in xs operation
  unfolding request_in
  marked operation o =
      let t1 = le-leb 2 (length xs) (omega arith) in
      let t2 = le-leb 3 (length xs) l in
      rw (t1, high, low, t2, o)

-- behind the operation the invoke-ID
pub invoke_id : (xs : List ℕ) → 5 ≤ length xs → two_octets_at xs 3 ≡ Ok (two_octet_number xs 3)
invoke_id xs l = let t = le-leb 5 (length xs) l in rw t

module _ (xs : List ℕ) (l : 5 ≤ length xs) (high : get_or xs 0 0 ≡ 0x49) (low : get_or xs 1 0 ≡ 0x56) where
  pub start_arm : get_or xs 2 0 ≡ start_operation → request_in xs ≡ start_at xs 5 (two_octet_number xs 3)
  start_arm o = marked xs (omega arith) high low start_operation o ∙ ap (λ i. and_then i (start_at xs 5)) (invoke_id xs l)

  pub stop_arm : get_or xs 2 0 ≡ stop_operation → request_in xs ≡ stop_at xs 5 (two_octet_number xs 3)
  stop_arm o = marked xs (omega arith) high low stop_operation o ∙ ap (λ i. and_then i (stop_at xs 5)) (invoke_id xs l)

  pub bind_arm : get_or xs 2 0 ≡ bind_operation → request_in xs ≡ bind_at xs 5 (two_octet_number xs 3)
  bind_arm o = marked xs (omega arith) high low bind_operation o ∙ ap (λ i. and_then i (bind_at xs 5)) (invoke_id xs l)

  pub unbind_arm : get_or xs 2 0 ≡ unbind_operation → request_in xs ≡ unbind_at xs 5 (two_octet_number xs 3)
  unbind_arm o = marked xs (omega arith) high low unbind_operation o ∙ ap (λ i. and_then i (unbind_at xs 5)) (invoke_id xs l)

pub abort_arm : (xs : List ℕ) → 3 ≤ length xs → get_or xs 0 0 ≡ 0x49 → get_or xs 1 0 ≡ 0x56 → get_or xs 2 0 ≡ abort_operation → request_in xs ≡ abort_at xs 3
abort_arm xs l high low o = marked xs l high low abort_operation o
