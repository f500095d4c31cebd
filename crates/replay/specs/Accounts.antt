-- The code's account, as the definition of accounts has it.
use Rattle.std.specs.Prelude.{◌≡◌, ◌^◌, ◌<◌}
use Rattle.histories.specs.Accounts as accounts
use Rattle.replay.specs.declared.account.Account.{Account}

abbrev pub account_of : Account → accounts.Account
account_of a = record { accepted_records = a.accepted; handed_over = a.handed_over; pending_records = a.pending; untaken_records = a.untaken; passed_records = a.passed_over; discarded_records = a.discarded; sent_pdus = a.pdus_sent; collected_pdus = a.pdus_collected }

-- The numbers of an account fit 64 bits.
abbrev pub Fits : accounts.Account → Type 0
Fits a =
    (a.accepted_records < 2 ^ 64) × (a.handed_over < 2 ^ 64) × (a.pending_records < 2 ^ 64) × (a.untaken_records < 2 ^ 64)
    × (a.passed_records < 2 ^ 64) × (a.discarded_records < 2 ^ 64) × (a.sent_pdus < 2 ^ 64) × (a.collected_pdus < 2 ^ 64)

-- From the account a the code's account became b. Once a number would not fit, nothing is said of it.
abbrev pub Becomes : accounts.Account → accounts.Account → Type 0
Becomes a b = Fits a → b ≡ a
