use Rattle.std.proofs.Common.{◌≡◌, ◌-◌, ◌++◌, length, vec_items}
use Rattle.dump.specs.Lines.{pdu_lines, lines_from}
use Rattle.dump.proofs.records.say_pdu.Given as goal

abbrev pub invariant-loop-part : goal.invariant-loop-part
invariant-loop-part l =
    (l.reader.pdu.now ≡ l.pdu)
    × (vec_items l.initial.out ++ pdu_lines l.pdu ≡ vec_items l.out ++ lines_from (length l.pdu) l.pdu l.reader.place)

abbrev pub decreases-loop-part : goal.decreases-loop-part
decreases-loop-part l = length l.pdu - l.reader.place
