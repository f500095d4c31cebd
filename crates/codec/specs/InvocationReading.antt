-- Reading an invocation: its fields in order, and nothing behind them.
use Rattle.std.specs.Prelude.{ℕ, ◌+◌, cond, List, length, Some, None, Ok, Err, Option, Result, ◌==◌, nat_le, nat_lt}
use Rattle.codec.specs.Limits.{time_length}
use Rattle.codec.specs.Blocks.{block_at}
use Rattle.codec.specs.Times.{Stamp}
use Rattle.codec.specs.Fields.{fault, present, and_then, provided, octet_at, value_at, two_octets_at, stamp_at}
use Rattle.codec.specs.Invocations.{Request, start, stop, bind, unbind, abort, requested, identifier_length_allowed, invocation_mark, start_operation, stop_operation, bind_operation, unbind_operation, abort_operation}
use Rattle.codec.specs.declared.fault.Fault.{Fault}
use Rattle.codec.specs.declared.fault.FaultKind.TheVariants.{Mark, Value, Extra}
use Rattle.codec.specs.declared.invocation.Invocation.{Invocation}
use Rattle.codec.specs.declared.invocation.InvocationFault.{InvocationFault}
use Rattle.codec.specs.declared.invocation.InvocationFault.TheVariants.{Undecodable}
use Rattle.codec.specs.declared.invocation.RequestedQuality.{RequestedQuality}
use Rattle.codec.specs.declared.invocation.RequestedQuality.TheVariants.{GoodOnly, ErredOnly, All}
use Rattle.codec.specs.declared.invocation.UnbindReason.{UnbindReason}
use Rattle.codec.specs.declared.invocation.UnbindReason.TheVariants.{End, Suspend, VersionNotSupported, Other}

-- The requested quality and the reason to unbind that an octet stands for.
abbrev pub requested_quality_of : ℕ → Option RequestedQuality
requested_quality_of n = cond (n == 0) (Some GoodOnly) (cond (n == 1) (Some ErredOnly) (cond (n == 2) (Some All) None))

abbrev pub reason_of : ℕ → Option UnbindReason
reason_of n =
    cond (n == 0) (Some End)
    (cond (n == 1) (Some Suspend) (cond (n == 2) (Some VersionNotSupported) (cond (n == 127) (Some Other) None)))

-- The fields of a requested quality and of a reason to unbind.
abbrev pub requested_quality_at : List ℕ → ℕ → Result RequestedQuality Fault
requested_quality_at xs at = value_at requested_quality_of xs at

abbrev pub reason_at : List ℕ → ℕ → Result UnbindReason Fault
reason_at xs at = value_at reason_of xs at

-- A time that may be absent, and how many octets it takes.
abbrev pub stamp_if_at : List ℕ → ℕ → Result (Option Stamp) Fault
stamp_if_at xs at =
    and_then (octet_at xs at) (λ flag.
    cond (flag == 0) (Ok None)
    (cond (flag == 1) (and_then (stamp_at xs (at + 1)) (λ t. Ok (Some t)))
    (Err (fault Value at))))

abbrev pub stamp_if_length : Option Stamp → ℕ
stamp_if_length None = 1
stamp_if_length (Some t) = 1 + time_length

-- A version, which is not 0.
abbrev pub version_at : List ℕ → ℕ → Result ℕ Fault
version_at xs at = and_then (octet_at xs at) (λ v. provided (nat_le 1 v) at (Ok v))

-- An identifier behind its length.
abbrev pub identifier_at : List ℕ → ℕ → Result (List ℕ) Fault
identifier_at xs at =
    and_then (octet_at xs at) (λ n.
    provided (identifier_length_allowed n) at (present xs (at + 1) n (block_at xs (at + 1) n)))

-- A request that ends at a place: octets behind it are left over.
abbrev pub ending_at : List ℕ → ℕ → Request → Result Request Fault
ending_at xs at request = cond (nat_lt at (length xs)) (Err (fault Extra at)) (Ok request)

-- The bodies of the operations, each from a place on.
abbrev pub start_at : List ℕ → ℕ → ℕ → Result Request Fault
start_at xs at i =
    and_then (requested_quality_at xs at) (λ q.
    and_then (stamp_if_at xs (at + 1)) (λ from.
    and_then (stamp_if_at xs (at + 1 + stamp_if_length from)) (λ until.
    ending_at xs (at + 1 + stamp_if_length from + stamp_if_length until) (start i q from until))))

abbrev pub stop_at : List ℕ → ℕ → ℕ → Result Request Fault
stop_at xs at i = ending_at xs at (stop i)

abbrev pub bind_at : List ℕ → ℕ → ℕ → Result Request Fault
bind_at xs at i =
    and_then (version_at xs at) (λ v.
    and_then (identifier_at xs (at + 1)) (λ name.
    ending_at xs (at + 2 + length name) (bind i v name)))

abbrev pub unbind_at : List ℕ → ℕ → ℕ → Result Request Fault
unbind_at xs at i = and_then (reason_at xs at) (λ reason. ending_at xs (at + 1) (unbind i reason))

abbrev pub abort_at : List ℕ → ℕ → Result Request Fault
abort_at xs at = and_then (octet_at xs at) (λ d. ending_at xs (at + 1) (abort d))

-- The operation decides the body; all but PEER-ABORT have an invoke-ID before it.
abbrev pub operation_in : List ℕ → ℕ → Result Request Fault
operation_in xs operation =
    cond (operation == start_operation) (and_then (two_octets_at xs 3) (λ i. start_at xs 5 i))
    (cond (operation == stop_operation) (and_then (two_octets_at xs 3) (λ i. stop_at xs 5 i))
    (cond (operation == bind_operation) (and_then (two_octets_at xs 3) (λ i. bind_at xs 5 i))
    (cond (operation == unbind_operation) (and_then (two_octets_at xs 3) (λ i. unbind_at xs 5 i))
    (cond (operation == abort_operation) (abort_at xs 3)
    (Err (fault Value 2))))))

-- The request that the octets are, or the first fault.
unfoldable pub request_in : List ℕ → Result Request Fault
request_in xs =
    and_then (two_octets_at xs 0) (λ mark.
    cond (mark == invocation_mark) (and_then (octet_at xs 2) (λ operation. operation_in xs operation)) (Err (fault Mark 0)))

-- The request of what a reader of the code answers, whose faults are of one type or the other.
abbrev pub requested_or : {E : Type 0} → Result Invocation E → Result Request E
requested_or (Ok i) = Ok (requested i)
requested_or (Err e) = Err e

-- A reading fault makes the invocation undecodable, and is passed on whole.
abbrev pub decoded : Result Request Fault → Result Request InvocationFault
decoded (Ok request) = Ok request
decoded (Err e) = Err (Undecodable e)
