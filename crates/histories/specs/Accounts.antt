-- The account of a history: how many records and PDUs came to what, counted from the answers alone.
use Rattle.std.specs.Prelude.{◌≡◌, List, [], ◌∷◌, ℕ, zero, suc, ◌+◌, ◌-◌, length}
use Rattle.histories.specs.Calls.{Answer, accepted, refused, idle, waiting, sent, moved, passed_over, ended, quiet, collected, start_done, stop_done, bind_done, unbind_done, abort_done, undecodable, protocol_error}
use Rattle.histories.specs.Provider.{State}
use Rattle.histories.specs.Ledger.{Event, Ledger, acceptances, ledger}
use Rattle.histories.specs.Histories.{History}

-- Accepted records, all of them and by their fates; PDUs sent to the transport and collected there.
pub record Account : Type 0 where
  pub accepted_records : ℕ
  pub handed_over : ℕ
  pub pending_records : ℕ
  pub untaken_records : ℕ
  pub passed_records : ℕ
  pub discarded_records : ℕ
  pub sent_pdus : ℕ
  pub collected_pdus : ℕ

abbrev pub nothing : Account
nothing = record { accepted_records = 0; handed_over = 0; pending_records = 0; untaken_records = 0; passed_records = 0; discarded_records = 0; sent_pdus = 0; collected_pdus = 0 }

abbrev pub one_accepted : Account → Account
one_accepted a = record { accepted_records = a.accepted_records + 1; handed_over = a.handed_over; pending_records = a.pending_records; untaken_records = a.untaken_records + 1; passed_records = a.passed_records; discarded_records = a.discarded_records; sent_pdus = a.sent_pdus; collected_pdus = a.collected_pdus }

abbrev pub one_moved : Account → Account
one_moved a = record { accepted_records = a.accepted_records; handed_over = a.handed_over; pending_records = a.pending_records + 1; untaken_records = a.untaken_records - 1; passed_records = a.passed_records; discarded_records = a.discarded_records; sent_pdus = a.sent_pdus; collected_pdus = a.collected_pdus }

abbrev pub one_passed : Account → Account
one_passed a = record { accepted_records = a.accepted_records; handed_over = a.handed_over; pending_records = a.pending_records; untaken_records = a.untaken_records - 1; passed_records = a.passed_records + 1; discarded_records = a.discarded_records; sent_pdus = a.sent_pdus; collected_pdus = a.collected_pdus }

abbrev pub one_sent : Account → Account
one_sent a = record { accepted_records = a.accepted_records; handed_over = a.handed_over + a.pending_records; pending_records = 0; untaken_records = a.untaken_records; passed_records = a.passed_records; discarded_records = a.discarded_records; sent_pdus = a.sent_pdus + 1; collected_pdus = a.collected_pdus }

abbrev pub one_collected : Account → Account
one_collected a = record { accepted_records = a.accepted_records; handed_over = a.handed_over; pending_records = a.pending_records; untaken_records = a.untaken_records; passed_records = a.passed_records; discarded_records = a.discarded_records; sent_pdus = a.sent_pdus; collected_pdus = a.collected_pdus + 1 }

-- An answer that tells of a loss tells that all pending is discarded; one that tells of none leaves all as it is.
abbrev pub lose : ℕ → Account → Account
lose zero a = a
lose (suc n) a = record { accepted_records = a.accepted_records; handed_over = a.handed_over; pending_records = 0; untaken_records = a.untaken_records; passed_records = a.passed_records; discarded_records = a.discarded_records + a.pending_records; sent_pdus = a.sent_pdus; collected_pdus = a.collected_pdus }

-- One answer more.
abbrev pub counted : Answer → Account → Account
counted accepted a = one_accepted a
counted (refused n) a = a
counted idle a = a
counted waiting a = a
counted sent a = one_sent a
counted moved a = one_moved a
counted passed_over a = one_passed a
counted ended a = a
counted quiet a = a
counted (collected n) a = one_collected a
counted (start_done id) a = a
counted (stop_done id) a = a
counted (bind_done id version) a = a
counted (unbind_done id) a = a
counted (abort_done n) a = lose n a
counted (undecodable fault n) a = lose n a
counted (protocol_error n) a = lose n a

-- The account of events, the newest first.
abbrev pub account_of_events : List Event → Account
account_of_events [] = nothing
account_of_events (e ∷ es) = counted e.answer (account_of_events es)

-- An account agrees with a ledger and a state: its numbers are the lengths of the ledger's lists, every accepted record is counted under one fate, and the PDUs sent and not yet collected are those that wait in the transport.
pub record Agrees (a : Account) (l : Ledger) (s : State) : Type 0 where
  pub received : a.accepted_records ≡ length l.received
  pub handed : a.handed_over ≡ length (acceptances l.handed)
  pub pending : a.pending_records ≡ length (acceptances l.pending)
  pub untaken : a.untaken_records ≡ length l.untaken
  pub passed : a.passed_records ≡ length l.passed
  pub discarded : a.discarded_records ≡ length (acceptances l.discarded)
  pub all_told : a.accepted_records ≡ a.handed_over + (a.pending_records + (a.untaken_records + (a.passed_records + a.discarded_records)))
  pub pdus : a.collected_pdus ≡ length l.pdus
  pub waiting : a.sent_pdus ≡ a.collected_pdus + length s.transport.held

-- In every history the account of its answers agrees with its ledger and its state.
abbrev pub AccountsAgree : Type 0
AccountsAgree = (es : List Event) (s : State) → History es s → Agrees (account_of_events es) (ledger es) s
