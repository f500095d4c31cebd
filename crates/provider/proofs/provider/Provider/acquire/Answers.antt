use Rattle.std.proofs.Common.{◌≡◌, [], Some, Err, sym, refl, ap, ◌∙◌, rules}
use Rattle.codec.specs.RecordReading.{quality_of}
use Rattle.codec.specs.Records.{frame}
use Rattle.codec.specs.Times.{stamp}
use Rattle.histories.specs.Calls.{acquire, argument, as_frame, refused, refuses}
use Rattle.histories.specs.Provider.{receive}
use Rattle.provider.specs.Answers.{reception_answer}
use Rattle.provider.specs.Sessions.{session_of}
use Rattle.provider.specs.States.{state_of, numbers}
use Rattle.provider.specs.declared.answer.ReceptionRefusal.TheVariants.{Quality, Time}
use Rattle.provider.proofs.Claims.{stays, called, refused_as}
use Rattle.provider.proofs.Refusing.{Refusing, refusing_ok, refusing_err}
use Rattle.provider.proofs.Receiving.{closed_refuses, open_receives, untimely, copies_nothing, no_value, a_value, no_time, a_time}
use Rattle.provider.proofs.provider.Provider.acquire.Goals as goal

pub returns-then-is_closed : goal.returns-then-is_closed
returns-then-is_closed g c =
    let p = c.args.self.now in
    let s = state_of g.F.Meaning g.T.Meaning p in
    let call = acquire c.args.quality (numbers c.args.time) c.args.data.now in
    called s s call (refused 4) [] (refuses (session_of p.session) 4) (closed_refuses s.session s.frames 10 (argument call) (sym c.if-is_closed.ensures)) refl (stays s (refused 4))

pub returns-in_err-quality : goal.returns-in_err-quality
returns-in_err-quality g c =
    let s = state_of g.F.Meaning g.T.Meaning c.args.self.now in
    let t = numbers c.args.time in
    let call = acquire c.args.quality t c.args.data.now in
    let told : Refusing Quality c.try_from.result c.map_err.result = search rules in
    let failed = refusing_err Quality c.in_err-quality.field-0.0 c.try_from.result c.map_err.result told c.in_err-quality.was in
    let r : c.from_residual.result ≡ Err Quality = search (rules, failed.2) in
    let none = no_value (quality_of c.args.quality) c.args.quality c.try_from.result c.try_from.ensures failed.0 failed.1 in
    let comes = open_receives s.session s.frames 10 (argument call) (sym c.if-is_closed.ensures)
    ∙ ap (λ q. receive s.session s.frames 10 (as_frame q t c.args.data.now)) none in
    called s s call _ [] (refuses s.session 10) comes refl (refused_as s s (reception_answer c.from_residual.result) 10 refl refl (ap reception_answer r))

pub returns-in_err-time : goal.returns-in_err-time
returns-in_err-time g c =
    let s = state_of g.F.Meaning g.T.Meaning c.args.self.now in
    let t = numbers c.args.time in
    let call = acquire c.args.quality t c.args.data.now in
    let known_one : Refusing Quality c.try_from.result c.map_err.result = search rules in
    let some = a_value (quality_of c.args.quality) c.args.quality c.try_from.result c.try_from.ensures c.in_ok-quality.quality (refusing_ok Quality c.try_from.result c.map_err.result c.in_ok-quality.quality known_one c.in_ok-quality.was) in
    let told : Refusing Time c.try_from-2.result c.map_err-2.result = search rules in
    let failed = refusing_err Time c.in_err-time.field-0.0 c.try_from-2.result c.map_err-2.result told c.in_err-time.was in
    let r : c.from_residual-in_err-time.result ≡ Err Time = search (rules, failed.2) in
    let late = no_time t c.try_from-2.result failed.0 c.try_from-2.ensures failed.1 in
    let comes = open_receives s.session s.frames 10 (argument call) (sym c.if-is_closed.ensures)
    ∙ ap (λ q. receive s.session s.frames 10 (as_frame q t c.args.data.now)) some
    ∙ untimely s.session s.frames (frame c.in_ok-quality.quality t c.args.data.now) 10 late in
    called s s call _ [] (refuses s.session 11) comes refl (refused_as s s (reception_answer c.from_residual-in_err-time.result) 11 refl refl (ap reception_answer r))

pub returns : goal.returns
returns g c =
    let s = state_of g.F.Meaning g.T.Meaning c.args.self.now in
    let t = numbers c.args.time in
    let d = c.args.data.now in
    let call = acquire c.args.quality t d in
    let known_one : Refusing Quality c.try_from.result c.map_err.result = search rules in
    let some = a_value (quality_of c.args.quality) c.args.quality c.try_from.result c.try_from.ensures c.in_ok-quality.quality (refusing_ok Quality c.try_from.result c.map_err.result c.in_ok-quality.quality known_one c.in_ok-quality.was) in
    let told : Refusing Time c.try_from-2.result c.map_err-2.result = search rules in
    let is = a_time t c.try_from-2.result c.in_ok-time.time c.try_from-2.ensures (refusing_ok Time c.try_from-2.result c.map_err-2.result c.in_ok-time.time told c.in_ok-time.was) in
    let comes = open_receives s.session s.frames 10 (argument call) (sym c.if-is_closed.ensures)
    ∙ ap (λ q. receive s.session s.frames 10 (as_frame q t d)) some
    ∙ ap (λ x. receive s.session s.frames 10 (Some (frame c.in_ok-quality.quality x d))) (sym is) in
    called s _ call (reception_answer c.receive_frame.result) [] (receive s.session s.frames 10 (Some (frame c.in_ok-quality.quality (stamp c.in_ok-time.time) d))) comes
    (copies_nothing s.session s.frames 10 (Some (frame c.in_ok-quality.quality (stamp c.in_ok-time.time) d))) c.receive_frame.ensures
