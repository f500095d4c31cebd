use Rattle.std.proofs.Common.{◌≡◌, true, take, Err, sym, refl, ap, ◌∙◌, arith, rules}
use Rattle.codec.specs.Times.{stamp, timely}
use Rattle.codec.specs.Records.{frame}
use Rattle.provider.specs.Answers.{reception_answer}
use Rattle.provider.specs.Sessions.{session_of}
use Rattle.provider.specs.States.{state_of, queue_of}
use Rattle.provider.specs.declared.answer.ReceptionRefusal.TheVariants.{DataLength}
use Rattle.provider.proofs.Claims.{refused_as}
use Rattle.provider.proofs.Refusing.{Refusing, refusing_err}
use Rattle.provider.proofs.Sending.{leads_by}
use Rattle.provider.proofs.Receiving.{receives, no_data_lem, offered_record, written_front, not_written}
use Rattle.provider.proofs.provider.Provider.receive_by.Goals as goal

pub returns-in_err-length : goal.returns-in_err-length
returns-in_err-length g c =
    let p = c.args.self.now in
    let s = session_of p.session in
    let t = stamp c.args.time in
    let told : Refusing DataLength c.write_frame.result c.map_err.result = search rules in
    let failed = refusing_err DataLength c.in_err-length.field-0.0 c.write_frame.result c.map_err.result told c.in_err-length.was in
    let r : c.from_residual.result ≡ Err DataLength = search (rules, failed.2) in
    let in_time : timely t ≡ true = search rules in
    let none = not_written c.args.quality t c.args.data.now c.args.local.now failed.0 (sym failed.1 ∙ c.write_frame.ensures.answer) (λ few. omega (arith, c.requires.fits few, c.requires.size)) in
    refused_as _ _ (reception_answer c.from_residual.result) 12 refl (no_data_lem s (queue_of g.F.Meaning p.frames) (frame c.args.quality t c.args.data.now) 10 in_time none) (ap reception_answer r)

pub returns : goal.returns
returns g c =
    let p = c.args.self.now in
    let t = stamp c.args.time in
    let r = frame c.args.quality t c.args.data.now in
    let told : Refusing DataLength c.write_frame.result c.map_err.result = search rules in
    let in_time : timely t ≡ true = search rules in
    let front = written_front DataLength r c.args.local.now c.write_frame.new.out c.write_frame.result c.map_err.result c.in_ok-length.length told c.in_ok-length.was
    c.write_frame.ensures.answer c.write_frame.ensures.buffer in
    leads_by _ _ _ _ _ (receives (session_of p.session) (queue_of g.F.Meaning p.frames) r 10 in_time front.0)
    (offered_record (state_of g.F.Meaning g.T.Meaning p) _ r (take c.in_ok-length.length c.write_frame.new.out) (reception_answer c.offer.result) front.1 refl c.offer.ensures)
