use Rattle.std.proofs.Common.{◌≡◌, ◌++◌, length, Some, None, Ok, Err, vec_items, sym, ap, ◌∙◌, append_assoc, arith}
use Rattle.std.proofs.lemmas.Result.{IfOk-weaker}
use Rattle.codec.specs.RecordReading.{content_or, record_at}
use Rattle.codec.specs.Reader.{part_of, part_if_or, next_part, next_cursor}
use Rattle.codec.proofs.Counting.{count_some}
use Rattle.codec.proofs.Slices.{octets_typed}
use Rattle.dump.specs.Lines.{part_line, lines_from}
use Rattle.dump.proofs.PduLines.{lines_end, lines_fault, lines_part}
use Rattle.dump.proofs.records.say_pdu.Goals as goal

-- a part that was handed out lies behind the cursor
pub loop-part-smaller : goal.loop-part-smaller
loop-part-smaller c =
    let xs = c.args.pdu.now in
    let at = c.loop-part.reader.place in
    let over : c.loop-part.reader.pdu.now ≡ xs = c.loop-part.invariant.0 in
    let told : next_part xs at ≡ Ok (Some (part_of c.in-Ok-Some.part)) = sym (c.in-Ok-Some.ensures.answer ∙ ap (λ z. next_part z at) over) ∙ ap (λ n. part_if_or (Ok n)) c.in-Ok-Some.field-0-is in
    let step = count_some xs at 0 (part_of c.in-Ok-Some.part) told in
    let cursor = c.in-Ok-Some.ensures.cursor ∙ ap (λ z. next_cursor z at) over in
    omega (arith, step.0, step.2, cursor)

pub loop-part-preserved : goal.loop-part-preserved
loop-part-preserved c =
    let xs = c.args.pdu.now in
    let at = c.loop-part.reader.place in
    let over : c.loop-part.reader.pdu.now ≡ xs = c.loop-part.invariant.0 in
    let told : next_part xs at ≡ Ok (Some (part_of c.in-Ok-Some.part)) = sym (c.in-Ok-Some.ensures.answer ∙ ap (λ z. next_part z at) over) ∙ ap (λ n. part_if_or (Ok n)) c.in-Ok-Some.field-0-is in
    let cursor = c.in-Ok-Some.ensures.cursor ∙ ap (λ z. next_cursor z at) over in
    let step = lines_part xs at (length xs) (part_of c.in-Ok-Some.part) (octets_typed xs c.type_inv.pdu) (omega arith) told in
    let line = part_line c.in-Ok-Some.part.place (content_or (record_at c.in-Ok-Some.part.octets.now 0)) in
    let rest = lines_from (length xs) xs in (
      c.in-Ok-Some.ensures.over ∙ over,
      c.loop-part.invariant.1 ∙ ap (λ l. vec_items c.loop-part.out ++ l) step
          ∙ sym (append_assoc (vec_items c.loop-part.out) line (rest (next_cursor xs at)))
          ∙ (λ i. sym c.in_ok-say_record-in-Ok-Some.ensures i ++ rest (sym cursor i)),
    )

pub loop-part-init : goal.loop-part-init
loop-part-init c =
    let xs = c.args.pdu.now in
    (c.new-reader.ensures.over, ap (λ k. vec_items c.args.out.now ++ lines_from (length xs) xs k) (sym c.new-reader.ensures.start))

pub returns-in-Ok-None : goal.returns-in-Ok-None
returns-in-Ok-None c =
    let xs = c.args.pdu.now in
    let at = c.loop-part.reader.place in
    let over : c.loop-part.reader.pdu.now ≡ xs = c.loop-part.invariant.0 in
    let told : next_part xs at ≡ Ok None = sym (c.in-Ok-None.ensures.answer ∙ ap (λ z. next_part z at) over) ∙ ap (λ n. part_if_or (Ok n)) c.in-Ok-None.field-0-is in
    let lines = c.loop-part.invariant.1 ∙ ap (λ l. vec_items c.loop-part.out ++ l) (lines_end xs at (length xs) told) in
    IfOk-weaker c.say.result _ _ (λ u h. h ∙ sym lines) c.say.ensures

pub returns-in-Err : goal.returns-in-Err
returns-in-Err c =
    let xs = c.args.pdu.now in
    let at = c.loop-part.reader.place in
    let over : c.loop-part.reader.pdu.now ≡ xs = c.loop-part.invariant.0 in
    let told : next_part xs at ≡ Err c.in-Err.fault = sym (c.in-Err.ensures.answer ∙ ap (λ z. next_part z at) over) in
    let lines = c.loop-part.invariant.1 ∙ ap (λ l. vec_items c.loop-part.out ++ l) (lines_fault xs at (length xs) c.in-Err.fault (omega arith) told) in
    IfOk-weaker c.say-in-Err.result _ _ (λ u h. h ∙ sym lines) c.say-in-Err.ensures
