-- The lines of a pass: what is written of each answer, and at the end of the account.
use Rattle.std.specs.Prelude.{ℕ, zero, suc, ◌-◌, List, [], ◌∷◌, ◌++◌, codes, decimal}
use Rattle.script.specs.Hexadecimal.{hexadecimal_text}
use Rattle.codec.specs.Faults.{letter_of}
use Rattle.histories.specs.Calls.{Answer, accepted, refused, idle, waiting, sent, moved, passed_over, ended, quiet, collected, start_done, stop_done, bind_done, unbind_done, abort_done, undecodable, protocol_error}
use Rattle.histories.specs.Accounts.{Account}

abbrev pub refusal_line : ℕ → List ℕ
refusal_line n = codes "refused " ++ (decimal n ++ codes "\n")

-- The line of the opening, by its number.
abbrev pub opening_line : ℕ → List ℕ
opening_line zero = codes "opened\n"
opening_line (suc n) = refusal_line (suc n)

-- The line of an answer; that of a collection has the octets that were copied.
abbrev pub answer_line : Answer → List ℕ → List ℕ
answer_line accepted copied = codes "accepted\n"
answer_line (refused n) copied = refusal_line n
answer_line idle copied = codes "idle\n"
answer_line waiting copied = codes "waiting\n"
answer_line sent copied = codes "sent\n"
answer_line moved copied = codes "moved\n"
answer_line passed_over copied = codes "passed over\n"
answer_line ended copied = codes "ended\n"
answer_line quiet copied = codes "quiet\n"
answer_line (collected n) copied = codes "collected " ++ (decimal n ++ (codes " " ++ (hexadecimal_text copied ++ codes "\n")))
answer_line (start_done id) copied = codes "started " ++ (decimal id ++ codes "\n")
answer_line (stop_done id) copied = codes "stopped " ++ (decimal id ++ codes "\n")
answer_line (bind_done id version) copied = codes "bound " ++ (decimal id ++ (codes " version " ++ (decimal version ++ codes "\n")))
answer_line (unbind_done id) copied = codes "unbound " ++ (decimal id ++ codes "\n")
answer_line (abort_done n) copied = codes "aborted lost " ++ (decimal n ++ codes "\n")
answer_line (undecodable fault n) copied =
    codes "refused 20 " ++ ((letter_of fault.kind ∷ []) ++ (codes " " ++ (decimal fault.place ++ (codes " lost " ++ (decimal n ++ codes "\n")))))
answer_line (protocol_error n) copied = codes "refused 21 lost " ++ (decimal n ++ codes "\n")

-- The two closing lines: what became of the accepted records, and of the PDUs.
abbrev pub accepted_text : Account → List ℕ
accepted_text a = codes "accepted " ++ (decimal a.accepted_records ++ (codes ", handed over " ++ (decimal a.handed_over ++ (codes ", pending " ++ decimal a.pending_records))))

abbrev pub others_text : Account → List ℕ
others_text a = codes ", untaken " ++ (decimal a.untaken_records ++ (codes ", passed over " ++ (decimal a.passed_records ++ (codes ", discarded " ++ (decimal a.discarded_records ++ codes "\n")))))

abbrev pub pdus_line : Account → List ℕ
pdus_line a = codes "PDUs sent " ++ (decimal a.sent_pdus ++ (codes ", collected " ++ (decimal a.collected_pdus ++ (codes ", waiting " ++ (decimal (a.sent_pdus - a.collected_pdus) ++ codes "\n")))))

abbrev pub account_lines : Account → List ℕ
account_lines a = accepted_text a ++ (others_text a ++ pdus_line a)
