-- Calls and answers of the code, as the definitions of histories have them.
use Rattle.std.specs.Prelude.{ℕ, List, [], length, Ok, Err, Vec, vec_items}
use Rattle.std.specs.Global.{Global}
use Rattle.std.specs.Borrow.{Bor}
use Rattle.histories.specs.Calls as calls
use Rattle.histories.specs.Ledger.{Event}
use Rattle.provider.specs.Answers.{reception_answer, move_answer, tick_answer, collection_number, invocation_answer}
use Rattle.provider.specs.States.{numbers, event}
use Rattle.replay.specs.declared.answer.Answer.{Answer}
use Rattle.replay.specs.declared.answer.Answer.TheVariants.{Received, Moved, Ticked, Collected, Invoked}
use Rattle.replay.specs.declared.call.Call.{Call}
use Rattle.replay.specs.declared.call.Call.TheVariants.{Acquire, Note, Move, Tick, Collect, Invoke}

-- A call, by what holds its octets: lent octets, or octets of its own.
abbrev pub call_by : {O : Type 0} → (O → List ℕ) → Call O → calls.Call
call_by octets_of (Acquire quality t d) = calls.acquire quality (numbers t) (octets_of d)
call_by octets_of (Note kind t status) = calls.note kind (numbers t) status
call_by octets_of Move = calls.move
call_by octets_of Tick = calls.tick
call_by octets_of (Collect capacity) = calls.collect capacity
call_by octets_of (Invoke octets) = calls.invoke (octets_of octets)

abbrev pub call_of : Call (Bor (List ℕ)) → calls.Call
call_of = call_by (λ octets. octets.now)

abbrev pub call_owned : Call (Vec ℕ Global) → calls.Call
call_owned = call_by vec_items

abbrev pub answer_of : Answer → calls.Answer
answer_of (Received r) = reception_answer r
answer_of (Moved m) = move_answer m
answer_of (Ticked t) = tick_answer t
answer_of (Collected (Ok v)) = calls.collected (length (vec_items v))
answer_of (Collected (Err e)) = calls.refused (collection_number e)
answer_of (Invoked r) = invocation_answer r

-- The octets that a call copied out: those of a PDU that was collected.
abbrev pub copied_of : Answer → List ℕ
copied_of (Received r) = []
copied_of (Moved m) = []
copied_of (Ticked t) = []
copied_of (Collected (Ok v)) = vec_items v
copied_of (Collected (Err e)) = []
copied_of (Invoked r) = []

abbrev pub event_of : Call (Bor (List ℕ)) → Answer → Event
event_of c a = event (call_of c) (answer_of a) (copied_of a)
