-- What the answers of the calls say, with the numbers of the refusals.
use Rattle.std.specs.Prelude.{ℕ, Ok, Err, Result}
use Rattle.histories.specs.Calls.{Answer, accepted, refused, idle, waiting, sent, moved, passed_over, ended, quiet, collected, start_done, stop_done, bind_done, unbind_done, abort_done, undecodable, protocol_error}
use Rattle.provider.specs.declared.answer.MoveAnswer.{MoveAnswer}
use Rattle.provider.specs.declared.answer.MoveAnswer.TheVariants as move_variants
use Rattle.provider.specs.declared.answer.TickAnswer.{TickAnswer}
use Rattle.provider.specs.declared.answer.TickAnswer.TheVariants as tick_variants
use Rattle.provider.specs.declared.answer.OpeningRefusal.{OpeningRefusal}
use Rattle.provider.specs.declared.answer.OpeningRefusal.TheVariants as opening_variants
use Rattle.provider.specs.declared.answer.ReceptionRefusal.{ReceptionRefusal}
use Rattle.provider.specs.declared.answer.ReceptionRefusal.TheVariants as reception_variants
use Rattle.provider.specs.declared.answer.CollectionRefusal.{CollectionRefusal}
use Rattle.provider.specs.declared.answer.CollectionRefusal.TheVariants as collection_variants
use Rattle.provider.specs.declared.answer.Performed.{Performed}
use Rattle.provider.specs.declared.answer.Performed.TheVariants as performed_variants
use Rattle.provider.specs.declared.answer.InvocationRefusal.{InvocationRefusal}
use Rattle.provider.specs.declared.answer.InvocationRefusal.TheVariants as invocation_variants

-- Opening: 0 where it is accepted.
abbrev pub opening_refusal_number : OpeningRefusal → ℕ
opening_refusal_number opening_variants.SettingsOutOfRange = 1
opening_refusal_number opening_variants.QueueNotEmpty = 2
opening_refusal_number opening_variants.QueueTooNarrow = 3

abbrev pub opening_answer : {X : Type 0} → Result X OpeningRefusal → ℕ
opening_answer (Ok x) = 0
opening_answer (Err e) = opening_refusal_number e

-- Acquisition and note.
abbrev pub reception_number : ReceptionRefusal → ℕ
reception_number reception_variants.Closed = 4
reception_number reception_variants.Quality = 10
reception_number reception_variants.Time = 11
reception_number reception_variants.DataLength = 12
reception_number reception_variants.NoRoom = 13
reception_number reception_variants.NoteTypeOrStatus = 14

abbrev pub reception_answer : Result (Unit {0}) ReceptionRefusal → Answer
reception_answer (Ok u) = accepted
reception_answer (Err e) = refused (reception_number e)

-- Move and tick.
abbrev pub move_answer : MoveAnswer → Answer
move_answer move_variants.Idle = idle
move_answer move_variants.Sent = sent
move_answer move_variants.Waiting = waiting
move_answer move_variants.Ended = ended
move_answer move_variants.Moved = moved
move_answer move_variants.PassedOver = passed_over

abbrev pub tick_answer : TickAnswer → Answer
tick_answer tick_variants.Quiet = quiet
tick_answer tick_variants.Sent = sent
tick_answer tick_variants.Waiting = waiting

-- Collection.
abbrev pub collection_number : CollectionRefusal → ℕ
collection_number collection_variants.NothingWaits = 30
collection_number collection_variants.BufferTooShort = 34

abbrev pub collection_answer : Result ℕ CollectionRefusal → Answer
collection_answer (Ok n) = collected n
collection_answer (Err e) = refused (collection_number e)

-- Invocation.
abbrev pub invocation_number : InvocationRefusal → ℕ
invocation_number invocation_variants.Closed = 4
invocation_number (invocation_variants.Undecodable fault n) = 20
invocation_number (invocation_variants.ProtocolError n) = 21
invocation_number invocation_variants.AccessDenied = 22
invocation_number invocation_variants.VersionNotSupported = 23
invocation_number invocation_variants.InvalidStopTime = 24
invocation_number invocation_variants.OutOfService = 25
invocation_number invocation_variants.NoAssociation = 26

abbrev pub performed_answer : Performed → Answer
performed_answer (performed_variants.Started id) = start_done id
performed_answer (performed_variants.Stopped id) = stop_done id
performed_answer (performed_variants.Bound id version) = bind_done id version
performed_answer (performed_variants.Unbound id) = unbind_done id
performed_answer (performed_variants.Aborted n) = abort_done n

abbrev pub refusal_answer : InvocationRefusal → Answer
refusal_answer invocation_variants.Closed = refused 4
refusal_answer (invocation_variants.Undecodable fault n) = undecodable fault n
refusal_answer (invocation_variants.ProtocolError n) = protocol_error n
refusal_answer invocation_variants.AccessDenied = refused 22
refusal_answer invocation_variants.VersionNotSupported = refused 23
refusal_answer invocation_variants.InvalidStopTime = refused 24
refusal_answer invocation_variants.OutOfService = refused 25
refusal_answer invocation_variants.NoAssociation = refused 26

abbrev pub invocation_answer : Result Performed InvocationRefusal → Answer
invocation_answer (Ok p) = performed_answer p
invocation_answer (Err e) = refusal_answer e
