-- What an invocation does to a session, step by step as the code takes it.
use Rattle.std.specs.Prelude.{◌≡◌, Ok, Err, Result}
use Rattle.codec.specs.declared.invocation.InvocationFault.{InvocationFault}
use Rattle.codec.specs.declared.invocation.InvocationFault.TheVariants.{Closed, Undecodable, NoAssociation, ProtocolError, AccessDenied, VersionNotSupported, OutOfService, InvalidStopTime}
use Rattle.histories.specs.Sessions as sessions
use Rattle.histories.specs.Calls.{Outcome, refuses, protocol_error}
use Rattle.histories.specs.Invocations.{discard, by_fault}
use Rattle.provider.specs.Answers.{performed_answer}
use Rattle.provider.specs.Sessions.{session_of}
use Rattle.provider.specs.declared.answer.Performed.{Performed}
use Rattle.provider.specs.declared.session.Session.{Session}

-- What a fault that refuses an invocation comes to.
abbrev pub fault_outcome : sessions.Session → InvocationFault → Outcome
fault_outcome s Closed = refuses s 4
fault_outcome s (Undecodable fault) = by_fault s s.phase fault
fault_outcome s NoAssociation = refuses s 26
fault_outcome s ProtocolError = discard s protocol_error
fault_outcome s AccessDenied = refuses s 22
fault_outcome s VersionNotSupported = refuses s 23
fault_outcome s OutOfService = refuses s 25
fault_outcome s InvalidStopTime = refuses s 24

-- What was opened stays.
pub record Unopened (s s' : Session) : Type 0 where
  pub settings : s'.settings ≡ s.settings
  pub opening : s'.opening ≡ s.opening

-- A session that performs an invocation answers and becomes what the invocation comes to; one that finds a fault is as
-- it was, and the invocation comes to that fault.
abbrev pub Performs : Result Performed InvocationFault → Outcome → Session → Session → Type 0
Performs (Ok p) o s s' = (performed_answer p ≡ o.answer) × (session_of s' ≡ o.session)
Performs (Err f) o s s' = (s' ≡ s) × (o ≡ fault_outcome (session_of s) f)
