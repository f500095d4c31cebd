use Rattle.std.proofs.Common.{◌≡◌, suc, ◌+◌, ◌-◌, length, Ok, sym, ap, ◌∙◌, arith}
use Rattle.codec.specs.RecordReading.{records_from}
use Rattle.codec.specs.Reader.{part_if_or, next_part, next_cursor, count_or}
use Rattle.codec.proofs.Counting.{after, after_one_more, count_some}
use Rattle.codec.proofs.record.count.record_count.Goals as goal

pub loop-part-preserved : goal.loop-part-preserved
loop-part-preserved c =
    let xs = c.args.pdu.now in
    let at = c.loop-part.reader.place in
    let n = c.loop-part.count in
    let inv = c.loop-part.invariant in
    let told = sym (c.next.ensures.answer ∙ ap (λ z. next_part z at) inv.0) ∙ ap part_if_or (c.in_ok-_part.was ∙ ap Ok c.in-Some.is) in
    let step = count_some xs at (length xs - (n + 1)) _ told in
    let fuel : length xs - n ≡ suc (length xs - (n + 1)) = omega (arith, step.0) in
    let cursor = c.next.ensures.cursor ∙ ap (λ z. next_cursor z at) inv.0 in (
      c.next.ensures.over ∙ inv.0,
      omega (arith, step.2, cursor),
      inv.2 ∙ ap (λ m. after n (count_or (records_from m xs at))) fuel ∙ ap (after n) step.1 ∙ after_one_more n _ ∙ ap (λ k. after (n + 1) (count_or (records_from (length xs - (n + 1)) xs k))) (sym cursor),
    )
