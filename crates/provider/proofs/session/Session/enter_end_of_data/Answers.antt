use Rattle.std.proofs.Common.{ℕ, ◌++◌, replicate, sym, ap, ◌∙◌}
use lib.ListN.{length-replicate}
use Rattle.codec.specs.RecordReading.{content_if}
use Rattle.histories.specs.Sessions.{marked, holding, aged, age_at_entry}
use Rattle.provider.specs.Buffers.{record_list}
use Rattle.provider.specs.Sessions.{session_of}
use Rattle.provider.proofs.EndOfData.{end_written}
use Rattle.provider.proofs.session.Session.enter_end_of_data.Goals as goal

pub enter-requires : goal.enter-requires
enter-requires c =
    let one = end_written (replicate 12 0) c.write_notification.new.out c.write_notification.result (length-replicate {A = ℕ} 12 0) c.write_notification.ensures.answer c.write_notification.ensures.buffer in
    record { room = c.requires.room; one = sym (ap content_if one) }

pub returns : goal.returns
returns c =
    let s = session_of c.args.self.now in
    let one = end_written (replicate 12 0) c.write_notification.new.out c.write_notification.result (length-replicate {A = ℕ} 12 0) c.write_notification.ensures.answer c.write_notification.ensures.buffer in
    record {
      session = ap marked (c.enter.ensures.session ∙ ap (λ r. holding (s.buffer ++ record_list r) (aged (age_at_entry s.buffer s.age) s)) one);
      kept = record { settings = c.enter.ensures.kept.settings; opening = c.enter.ensures.kept.opening };
    }
