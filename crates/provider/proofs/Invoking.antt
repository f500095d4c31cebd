-- An invocation touches neither queue, and copies nothing.
use Rattle.std.proofs.Common.{◌≡◌, ℕ, Bool, cond, leb, List, Ok, Err, Result, refl, arith}
use Rattle.std.specs.Str.{bytes_eq}
use Rattle.codec.specs.declared.fault.Fault.{Fault}
use Rattle.codec.specs.Invocations.{Request, start, stop, bind, unbind, abort}
use Rattle.codec.specs.InvocationReading.{request_in}
use Rattle.histories.specs.Sessions.{Settings, Session, Phase, empty_span, to_phase, selecting}
use Rattle.histories.specs.Calls.{Outcome, says, refuses, start_done, bind_done}
use Rattle.histories.specs.Invocations.{Cell, to, cell_protocol_error, refusal, table, is_halted, selection_of, start_by, bind_by, performed, by_cell, by_fault, by_reading, invoke_by}

abbrev pub Quiet : Outcome → Type 0
Quiet o = o ≡ says o.session o.answer

either : (b : Bool) (x y : Outcome) → Quiet x → Quiet y → Quiet (cond b x y)
either b x y e f = grind arith

by_performing : (g : Settings) (s : Session) (p : Phase) (r : Request) → Quiet (performed g s p r)
unfolding start_by bind_by
by_performing g s p (start id q from until) =
    let done = says (to_phase p (selecting (selection_of q from until) s)) (start_done id) in
    either (is_halted s.production) (refuses s 25) (cond (empty_span from until) (refuses s 24) done) refl (either (empty_span from until) (refuses s 24) done refl refl)
by_performing g s p (stop id) = refl
by_performing g s p (bind id version identifier) =
    let done = says (to_phase p s) (bind_done id g.version) in
    either (bytes_eq identifier g.identifier) (cond (leb g.version version) done (refuses s 23)) (refuses s 22) (either (leb g.version version) done (refuses s 23) refl refl) refl
by_performing g s p (unbind id reason) = refl
by_performing g s p (abort diagnostic) = refl

by_the_cell : (g : Settings) (s : Session) (r : Request) (cell : Cell) → Quiet (by_cell g s r cell)
by_the_cell g s r (to p) = by_performing g s p r
by_the_cell g s r cell_protocol_error = refl
by_the_cell g s r (refusal n) = refl

by_the_fault : (s : Session) (p : Phase) (f : Fault) → Quiet (by_fault s p f)
by_the_fault s p f = grind arith

by_the_reading : (g : Settings) (s : Session) (r : Result Request Fault) → Quiet (by_reading g s r)
by_the_reading g s (Ok r) = by_the_cell g s r (table s.phase r)
by_the_reading g s (Err f) = by_the_fault s s.phase f

pub invocation_quiet : (g : Settings) (s : Session) (octets : List ℕ) → Quiet (invoke_by g s octets)
unfolding invoke_by
invocation_quiet g s octets = by_the_reading g s (request_in octets)
