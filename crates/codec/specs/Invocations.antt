-- Invocations: what each asks, the octets of its layout, and when it is well formed.
use Rattle.std.specs.Prelude.{◌≡◌, ℕ, ◌≤◌, Bool, true, cond, ◌&&◌, List, [], ◌∷◌, ◌++◌, length, take, Some, None, Ok, Err, Option, Result, nat_le}
use Rattle.codec.specs.Limits.{shortest_identifier, longest_identifier, octet_limit, two_octet_limit}
use Rattle.codec.specs.Times.{Stamp, stamp_if, timely, two_octets, stamp_octets}
use Rattle.codec.specs.declared.invocation.Identifier.{Identifier}
use Rattle.codec.specs.declared.invocation.Invocation.{Invocation}
use Rattle.codec.specs.declared.invocation.Invocation.TheVariants.{Start, Stop, Bind, Unbind, PeerAbort}
use Rattle.codec.specs.declared.invocation.InvocationFault.{InvocationFault}
use Rattle.codec.specs.declared.invocation.InvocationFault.TheVariants as fault_variants
use Rattle.codec.specs.declared.invocation.RequestedQuality.{RequestedQuality}
use Rattle.codec.specs.declared.invocation.RequestedQuality.TheVariants.{GoodOnly, ErredOnly, All}
use Rattle.codec.specs.declared.invocation.UnbindReason.{UnbindReason}
use Rattle.codec.specs.declared.invocation.UnbindReason.TheVariants.{End, Suspend, VersionNotSupported, Other}

-- The octets of an identifier of the code, and whether octets are as many as an identifier may have.
abbrev pub named : Identifier → List ℕ
named i = take i.count i.octets

abbrev pub named_if : Option Identifier → Option (List ℕ)
named_if (Some i) = Some (named i)
named_if None = None

abbrev pub named_or : {E : Type 0} → Result Identifier E → Result (List ℕ) E
named_or (Ok i) = Ok (named i)
named_or (Err e) = Err e

abbrev pub identifier_length_allowed : ℕ → Bool
identifier_length_allowed n = nat_le shortest_identifier n && nat_le n longest_identifier

abbrev pub identifier_from : List ℕ → Option (List ℕ)
identifier_from xs = cond (identifier_length_allowed (length xs)) (Some xs) None

-- What a user asks: START with an invoke-ID, the quality wanted, a start and a stop time that may each be absent;
-- STOP; BIND with the version and the user's identifier; UNBIND with a reason; PEER-ABORT with a diagnostic.
pub data Request : Type 0 where
  start : ℕ → RequestedQuality → Option Stamp → Option Stamp → Request
  stop : ℕ → Request
  bind : ℕ → ℕ → List ℕ → Request
  unbind : ℕ → UnbindReason → Request
  abort : ℕ → Request

-- The request of an invocation of the code.
abbrev pub requested : Invocation → Request
requested (Start i q from until) = start i q (stamp_if from) (stamp_if until)
requested (Stop i) = stop i
requested (Bind i v name) = bind i v (named name)
requested (Unbind i reason) = unbind i reason
requested (PeerAbort d) = abort d

-- The mark of an invocation, and the numbers of the operations.
abbrev pub invocation_mark : ℕ
invocation_mark = 0x4956

abbrev pub start_operation : ℕ
start_operation = 0

abbrev pub stop_operation : ℕ
stop_operation = 2

abbrev pub bind_operation : ℕ
bind_operation = 100

abbrev pub unbind_operation : ℕ
unbind_operation = 102

abbrev pub abort_operation : ℕ
abort_operation = 104

-- The octets of the requested quality and of the reason to unbind.
abbrev pub requested_quality_octet : RequestedQuality → ℕ
requested_quality_octet GoodOnly = 0
requested_quality_octet ErredOnly = 1
requested_quality_octet All = 2

abbrev pub reason_octet : UnbindReason → ℕ
reason_octet End = 0
reason_octet Suspend = 1
reason_octet VersionNotSupported = 2
reason_octet Other = 127

-- A time that may be absent: an octet 0, or an octet 1 and the time.
abbrev pub stamp_if_octets : Option Stamp → List ℕ
stamp_if_octets None = 0 ∷ []
stamp_if_octets (Some t) = 1 ∷ stamp_octets t

-- Mark, operation and invoke-ID, which stand before the body.
abbrev pub invocation_header : ℕ → ℕ → List ℕ
invocation_header operation i = two_octets invocation_mark ++ (operation ∷ two_octets i)

-- The octets of a request; PEER-ABORT has no invoke-ID.
unfoldable pub layout : Request → List ℕ
layout (start i q from until) = invocation_header start_operation i ++ (requested_quality_octet q ∷ (stamp_if_octets from ++ stamp_if_octets until))
layout (stop i) = invocation_header stop_operation i
layout (bind i v name) = invocation_header bind_operation i ++ (v ∷ length name ∷ name)
layout (unbind i reason) = invocation_header unbind_operation i ++ (reason_octet reason ∷ [])
layout (abort d) = two_octets invocation_mark ++ (abort_operation ∷ d ∷ [])

-- A time that is there is within its limits.
abbrev pub TimelyIf : Option Stamp → Type 0
TimelyIf None = Unit {0}
TimelyIf (Some t) = timely t ≡ true

-- Each number fits its octets, times are within their limits, version and identifier are as an association needs them.
abbrev pub WellFormedRequest : Request → Type 0
WellFormedRequest (start i q from until) = (i ≤ two_octet_limit) × TimelyIf from × TimelyIf until
WellFormedRequest (stop i) = i ≤ two_octet_limit
WellFormedRequest (bind i v name) = (i ≤ two_octet_limit) × (1 ≤ v) × (v ≤ octet_limit) × (identifier_length_allowed (length name) ≡ true)
WellFormedRequest (unbind i reason) = i ≤ two_octet_limit
WellFormedRequest (abort d) = d ≤ octet_limit

-- The number under which a refused invocation is answered.
abbrev pub number : InvocationFault → ℕ
number fault_variants.Closed = 4
number (fault_variants.Undecodable f) = 20
number fault_variants.ProtocolError = 21
number fault_variants.AccessDenied = 22
number fault_variants.VersionNotSupported = 23
number fault_variants.InvalidStopTime = 24
number fault_variants.OutOfService = 25
number fault_variants.NoAssociation = 26
