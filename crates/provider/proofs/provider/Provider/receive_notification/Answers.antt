use Rattle.std.proofs.Common.{◌≡◌, ℕ, replicate, Err, sym, ap, rules, ◌∙◌}
use lib.ListN.{length-replicate}
use Rattle.codec.specs.Records.{notified}
use Rattle.histories.specs.Sessions.{producing}
use Rattle.histories.specs.Provider.{produced}
use Rattle.provider.specs.Answers.{reception_answer, reception_number}
use Rattle.provider.specs.States.{state_of}
use Rattle.provider.specs.declared.answer.ReceptionRefusal.TheVariants.{NoRoom}
use Rattle.provider.proofs.Claims.{answering}
use Rattle.provider.proofs.Refusing.{Refusing, refusing_err}
use Rattle.provider.proofs.Receiving.{offered_record, taken_record, refused_record, written_front, always_written, unproduced}
use Rattle.provider.proofs.provider.Provider.receive_notification.Goals as goal

pub returns-in_err-length : goal.returns-in_err-length
returns-in_err-length g c =
    let told : Refusing NoRoom c.write_notification.result c.map_err.result = search rules in
    let failed = refusing_err NoRoom c.in_err-length.field-0.0 c.write_notification.result c.map_err.result told c.in_err-length.was in
    absurd (always_written c.args.notification (replicate 2061 0) failed.0 (sym failed.1 ∙ c.write_notification.ensures.answer) (length-replicate {A = ℕ} 2061 0))

pub returns-in_err-offer : goal.returns-in_err-offer
returns-in_err-offer g c =
    let told : Refusing NoRoom c.write_notification.result c.map_err.result = search rules in
    let r = notified c.args.notification in
    let front = written_front NoRoom r (replicate 2061 0) c.write_notification.new.out c.write_notification.result c.map_err.result c.in_ok-length.length told c.in_ok-length.was
    c.write_notification.ensures.answer c.write_notification.ensures.buffer in
    let same : c.from_residual-in_err-offer.result ≡ Err c.in_err-offer.field-0.0 = search rules in
    answering (sym (ap reception_answer same)) (refused_record (state_of g.F.Meaning g.T.Meaning c.args.self.now) _ r _ (reception_number c.in_err-offer.field-0.0) front.1
    (answering (ap reception_answer c.in_err-offer.was) c.offer.ensures))

pub returns-in-ProductionStatusChange : goal.returns-in-ProductionStatusChange
returns-in-ProductionStatusChange g c =
    let told : Refusing NoRoom c.write_notification.result c.map_err.result = search rules in
    let r = notified c.args.notification in
    let front = written_front NoRoom r (replicate 2061 0) c.write_notification.new.out c.write_notification.result c.map_err.result c.in_ok-length.length told c.in_ok-length.was
    c.write_notification.ensures.answer c.write_notification.ensures.buffer in
    let s' = state_of g.F.Meaning g.T.Meaning c.offer.new.self in
    taken_record (state_of g.F.Meaning g.T.Meaning c.args.self.now) s' r _ (producing c.in-ProductionStatusChange.status s'.session) front.1
    (ap (λ n. produced (notified n) s'.session) (sym c.in-ProductionStatusChange.is)) (answering (ap reception_answer c.in_ok-offer.was) c.offer.ensures)

pub returns-in_default : goal.returns-in_default
returns-in_default g c =
    let told : Refusing NoRoom c.write_notification.result c.map_err.result = search rules in
    let r = notified c.args.notification in
    let front = written_front NoRoom r (replicate 2061 0) c.write_notification.new.out c.write_notification.result c.map_err.result c.in_ok-length.length told c.in_ok-length.was
    c.write_notification.ensures.answer c.write_notification.ensures.buffer in
    let s = state_of g.F.Meaning g.T.Meaning c.args.self.now in
    offered_record s _ r _ _ front.1 (sym (unproduced c.args.notification s.session c.in_default.not-ProductionStatusChange)) (answering (ap reception_answer c.in_ok-offer.was) c.offer.ensures)
