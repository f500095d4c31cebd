use Rattle.std.proofs.Common.{◌≡◌, suc, true, [], MatchResult, sym, refl, ap, ◌∙◌, arith, rules}
use Rattle.histories.specs.Calls.{tick, quiet, says}
use Rattle.histories.specs.Delivery.{send, is_filled}
use Rattle.histories.specs.Sessions.{aged}
use Rattle.provider.specs.Answers.{tick_answer}
use Rattle.provider.specs.declared.answer.TickAnswer.TheVariants.{Sent, Waiting}
use Rattle.provider.specs.Held.{buffer_records}
use Rattle.provider.specs.Sessions.{settings_of, session_of}
use Rattle.provider.specs.States.{queue_of, state_of}
use Rattle.provider.specs.declared.session.Session.{Session}
use Rattle.provider.proofs.Claims.{stays, called, answering}
use Rattle.provider.proofs.Sending.{copies_nothing, sending_answer}
use Rattle.provider.proofs.Ticking.{empty_is, filled_is, tick_off, tick_none, tick_young, tick_old}
use Rattle.provider.proofs.provider.Provider.tick.Goals as goal

filled : (s : Session) → (s.buffer.count ≡ 0 → ⊥) → is_filled (buffer_records s.buffer) ≡ true
filled s ne = filled_is (buffer_records s.buffer) (let e = s.buffer.counted in omega arith)

pub returns-then-not-is_active : goal.returns-then-not-is_active
returns-then-not-is_active g c =
    let p = c.args.self.now in
    let s = state_of g.F.Meaning g.T.Meaning p in
    called s s tick quiet [] (says (session_of p.session) quiet) (tick_off (settings_of p.session.settings) (session_of p.session) (queue_of g.T.Meaning p.transport) (sym c.is_active.ensures ∙ c.if-not-is_active.true)) refl (stays s quiet)

pub returns-then-self-eq0 : goal.returns-then-self-eq0
returns-then-self-eq0 g c =
    let p = c.args.self.now in
    let s = state_of g.F.Meaning g.T.Meaning p in
    let none = empty_is (buffer_records p.session.buffer) (sym p.session.buffer.counted ∙ c.if-self-eq0.true) in
    called s s tick quiet [] (says (session_of p.session) quiet) (tick_none (settings_of p.session.settings) (session_of p.session) (queue_of g.T.Meaning p.transport) none) refl (stays s quiet)

pub returns-then-age-limit : goal.returns-then-age-limit
returns-then-age-limit g c =
    let p = c.args.self.now in
    let s = session_of p.session in
    let older : c.saturating_add-age.result ≡ suc p.session.age = omega arith in
    let young = tick_young (settings_of p.session.settings) s (queue_of g.T.Meaning p.transport) (sym c.is_active.ensures ∙ c.if-not-is_active.false) (filled p.session c.if-self-eq0.false) (omega arith) in
    called (state_of g.F.Meaning g.T.Meaning p) _ tick quiet [] (says (aged (suc p.session.age) s) quiet) young refl
    (record { answer = refl; settings = refl; opening = refl; session = ap (λ n. aged n s) older; frames = refl; transport = refl })

pub returns : goal.returns
returns g c =
    let p = c.args.self.now in
    let s = session_of p.session in
    let limit = p.session.settings.latency_limit in
    let old = tick_old (settings_of p.session.settings) s (queue_of g.T.Meaning p.transport) (sym c.is_active.ensures ∙ c.if-not-is_active.false) (filled p.session c.if-self-eq0.false) (omega arith) in
    let told : MatchResult c.send.result (λ u. c.map_or.result ≡ Sent) (λ e. c.map_or.result ≡ Waiting) = search rules in
    let a = sending_answer tick_answer Sent Waiting c.send.result c.map_or.result refl refl told in
    let l = answering a c.send.ensures in
    called (state_of g.F.Meaning g.T.Meaning p) _ tick _ [] (send (aged limit s) (queue_of g.T.Meaning p.transport)) old (copies_nothing (aged limit s) (queue_of g.T.Meaning p.transport))
    (record { answer = l.answer; settings = l.settings; opening = l.opening; session = l.session; frames = l.frames; transport = l.transport })
