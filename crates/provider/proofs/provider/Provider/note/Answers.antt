use Rattle.std.proofs.Common.{◌≡◌, true, [], Some, Err, sym, refl, ap, ◌∙◌, rules}
use Rattle.codec.specs.RecordReading.{status_of}
use Rattle.codec.specs.Records.{loss, status}
use Rattle.codec.specs.Times.{stamp, timely}
use Rattle.histories.specs.Calls.{note, argument, as_note, as_status, refused, refuses}
use Rattle.histories.specs.Provider.{admit, receive}
use Rattle.provider.specs.Answers.{reception_answer}
use Rattle.provider.specs.States.{state_of, numbers}
use Rattle.provider.specs.declared.answer.ReceptionRefusal.TheVariants.{Time, NoteTypeOrStatus}
use Rattle.provider.proofs.Claims.{stays, called, refused_as}
use Rattle.provider.proofs.Refusing.{Refusing, refusing_ok, refusing_err}
use Rattle.provider.proofs.Receiving.{closed_refuses, open_receives, receives, untimely, admit_copies_nothing, no_value, a_value, no_time, a_time, no_note}
use Rattle.provider.proofs.provider.Provider.note.Goals as goal

pub returns-then-is_closed : goal.returns-then-is_closed
returns-then-is_closed g c =
    let s = state_of g.F.Meaning g.T.Meaning c.args.self.now in
    let call = note c.args.kind (numbers c.args.time) c.args.status in
    called s s call (refused 4) [] (refuses s.session 4) (closed_refuses s.session s.frames 14 (argument call) (sym c.if-is_closed.ensures)) refl (stays s (refused 4))

pub returns-in_default : goal.returns-in_default
returns-in_default g c =
    let s = state_of g.F.Meaning g.T.Meaning c.args.self.now in
    let t = numbers c.args.time in
    let call = note c.args.kind t c.args.status in
    let comes = open_receives s.session s.frames 14 (argument call) (sym c.if-is_closed.ensures)
    ∙ ap (receive s.session s.frames 14) (no_note c.args.kind t c.args.status (search rules) (search rules)) in
    called s s call (refused 14) [] (refuses s.session 14) comes refl (stays s (refused 14))

pub returns-in_err-time-in-0 : goal.returns-in_err-time-in-0
returns-in_err-time-in-0 g c =
    let s = state_of g.F.Meaning g.T.Meaning c.args.self.now in
    let t = numbers c.args.time in
    let call = note c.args.kind t c.args.status in
    let told : Refusing Time c.try_from.result c.map_err.result = search rules in
    let failed = refusing_err Time c.in_err-time-in-0.field-0.0 c.try_from.result c.map_err.result told c.in_err-time-in-0.was in
    let r : c.from_residual.result ≡ Err Time = search (rules, failed.2) in
    let comes = open_receives s.session s.frames 14 (argument call) (sym c.if-is_closed.ensures)
    ∙ ap (λ k. receive s.session s.frames 14 (as_note k t c.args.status)) c.in-0.is
    ∙ untimely s.session s.frames (loss t) 14 (no_time t c.try_from.result failed.0 c.try_from.ensures failed.1) in
    called s s call _ [] (refuses s.session 11) comes refl (refused_as s s (reception_answer c.from_residual.result) 11 refl refl (ap reception_answer r))

pub returns-in_ok-time-in-0 : goal.returns-in_ok-time-in-0
returns-in_ok-time-in-0 g c =
    let s = state_of g.F.Meaning g.T.Meaning c.args.self.now in
    let t = numbers c.args.time in
    let call = note c.args.kind t c.args.status in
    let r = loss (stamp c.in_ok-time-in-0.time) in
    let told : Refusing Time c.try_from.result c.map_err.result = search rules in
    let is = a_time t c.try_from.result c.in_ok-time-in-0.time c.try_from.ensures (refusing_ok Time c.try_from.result c.map_err.result c.in_ok-time-in-0.time told c.in_ok-time-in-0.was) in
    let in_time : timely (stamp c.in_ok-time-in-0.time) ≡ true = search rules in
    let comes = open_receives s.session s.frames 14 (argument call) (sym c.if-is_closed.ensures)
    ∙ ap (λ k. receive s.session s.frames 14 (as_note k t c.args.status)) c.in-0.is
    ∙ ap (λ x. receive s.session s.frames 14 (Some (loss x))) (sym is)
    ∙ receives s.session s.frames r 14 in_time refl in
    called s _ call (reception_answer c.receive_notification.result) [] (admit s.session s.frames r) comes (admit_copies_nothing s.session s.frames r) c.receive_notification.ensures

pub returns-in_err-status-in-1 : goal.returns-in_err-status-in-1
returns-in_err-status-in-1 g c =
    let s = state_of g.F.Meaning g.T.Meaning c.args.self.now in
    let t = numbers c.args.time in
    let call = note c.args.kind t c.args.status in
    let told : Refusing NoteTypeOrStatus c.try_from-in-1.result c.map_err-in-1.result = search rules in
    let failed = refusing_err NoteTypeOrStatus c.in_err-status-in-1.field-0.0 c.try_from-in-1.result c.map_err-in-1.result told c.in_err-status-in-1.was in
    let r : c.from_residual-in_err-status-in-1.result ≡ Err NoteTypeOrStatus = search (rules, failed.2) in
    let none = no_value (status_of c.args.status) c.args.status c.try_from-in-1.result c.try_from-in-1.ensures failed.0 failed.1 in
    let comes = open_receives s.session s.frames 14 (argument call) (sym c.if-is_closed.ensures)
    ∙ ap (λ k. receive s.session s.frames 14 (as_note k t c.args.status)) c.in-1.is
    ∙ ap (λ v. receive s.session s.frames 14 (as_status v)) none in
    called s s call _ [] (refuses s.session 14) comes refl (refused_as s s (reception_answer c.from_residual-in_err-status-in-1.result) 14 refl refl (ap reception_answer r))

pub returns-in_ok-status-in-1 : goal.returns-in_ok-status-in-1
returns-in_ok-status-in-1 g c =
    let s = state_of g.F.Meaning g.T.Meaning c.args.self.now in
    let t = numbers c.args.time in
    let call = note c.args.kind t c.args.status in
    let r = status c.in_ok-status-in-1.status in
    let told : Refusing NoteTypeOrStatus c.try_from-in-1.result c.map_err-in-1.result = search rules in
    let some = a_value (status_of c.args.status) c.args.status c.try_from-in-1.result c.try_from-in-1.ensures c.in_ok-status-in-1.status (refusing_ok NoteTypeOrStatus c.try_from-in-1.result c.map_err-in-1.result c.in_ok-status-in-1.status told c.in_ok-status-in-1.was) in
    let comes = open_receives s.session s.frames 14 (argument call) (sym c.if-is_closed.ensures)
    ∙ ap (λ k. receive s.session s.frames 14 (as_note k t c.args.status)) c.in-1.is
    ∙ ap (λ v. receive s.session s.frames 14 (as_status v)) some
    ∙ receives s.session s.frames r 14 refl refl in
    called s _ call (reception_answer c.receive_notification-in-1.result) [] (admit s.session s.frames r) comes (admit_copies_nothing s.session s.frames r) c.receive_notification-in-1.ensures
