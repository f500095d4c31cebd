-- The worked examples are computed.
use Rattle.std.proofs.Common.{ℕ, ◌*◌, List, [], ◌∷◌, refl, inr}
use Rattle.codec.specs.Limits.{longest_record}
use Rattle.codec.specs.Records.{encode}
use Rattle.codec.specs.RecordReading.{record_at, records_in, one_record}
use Rattle.codec.specs.Invocations.{layout}
use Rattle.codec.specs.InvocationReading.{request_in}
use Rattle.histories.specs.Sessions.{selected, late}
use Rattle.histories.specs.Calls.{Call}
use Rattle.histories.specs.Delivery.{send_first, tick_by, collect_by}
use Rattle.histories.specs.Invocations.{table, bind_by, start_by, invoke_by}
use Rattle.histories.specs.Provider.{State, opening_number, admit, receive_by, move_record, move_by, outcome}
use Rattle.histories.specs.Ledger.{Event}
use Rattle.histories.specs.Histories.{History, opens, goes_on}
use Rattle.histories.specs.Examples.{ideal, settings, state_after, finally, events, beginning, worked_calls, EndsAreSelected, ErredIsPassedOver, LateFrameIsHeld, RestartDiscards, WorkedHistory, WorkedLedger}
use Rattle.histories.proofs.Ideal.{ideal_lawful}
use Rattle.histories.proofs.Possible.{makes}

-- what an evaluation looks through
opened_up : ℕ
unfolding encode record_at records_in one_record layout request_in selected late send_first tick_by collect_by table bind_by start_by invoke_by opening_number admit receive_by move_record move_by
opened_up = 0

pub ends_are_selected : EndsAreSelected
unfolding opened_up
ends_are_selected = refl

pub erred_is_passed_over : ErredIsPassedOver
unfolding opened_up
erred_is_passed_over = refl

pub late_frame_is_held : LateFrameIsHeld
unfolding opened_up
late_frame_is_held = record { answered = refl; held = refl }

pub restart_discards : RestartDiscards
unfolding opened_up
restart_discards = record { answered = refl; unbound_again = refl }

-- calls played over ideal queues go on with a history
plays : (cs : List Call) (s : State) (es : List Event) → History es s → History (events s cs es) (finally s cs)
plays [] s es h = h
plays (c ∷ cs) s es h = plays cs (state_after s (outcome s c)) (record { call = c; answer = (outcome s c).answer; copied = (outcome s c).copied } ∷ es) (goes_on _ h (makes s c))

opens_well : History [] beginning
unfolding opening_number
opens_well = opens settings (ideal longest_record []) (ideal (2 * longest_record) []) (ideal_lawful longest_record []) (ideal_lawful (2 * longest_record) []) refl

pub worked_history : WorkedHistory
worked_history = plays worked_calls beginning [] opens_well

pub worked_ledger : WorkedLedger
unfolding opened_up
worked_ledger = record {
  answered = refl;
  finished = record { lasts = refl; nothing_pending = refl; at_end = inr refl };
  third_run = refl;
  due_is = refl;
  own_are = refl;
  handed_are = refl;
  passed_are = refl;
  discarded_are = refl;
  pdus_say = refl;
}
