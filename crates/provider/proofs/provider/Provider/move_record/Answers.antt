use Rattle.std.proofs.Common.{◌≡◌, [], MatchResult, sym, refl, ◌∙◌, rules}
use Rattle.histories.specs.Calls.{move, idle, says}
use Rattle.histories.specs.Delivery.{send}
use Rattle.histories.specs.Provider.{oldest, move_record}
use Rattle.provider.specs.Answers.{move_answer}
use Rattle.provider.specs.declared.answer.MoveAnswer.TheVariants.{Sent, Waiting}
use Rattle.provider.specs.States.{state_of}
use Rattle.provider.proofs.Claims.{stays, called, answering}
use Rattle.provider.proofs.Sending.{copies_nothing, sending_answer}
use Rattle.provider.proofs.Moving.{move_off, move_sends, move_rests, move_looks, quiet_move}
use Rattle.provider.proofs.provider.Provider.move_record.Goals as goal

pub returns-then-not-is_active : goal.returns-then-not-is_active
returns-then-not-is_active g c =
    let s = state_of g.F.Meaning g.T.Meaning c.args.self.now in
    called s s move idle [] (says s.session idle) (move_off s (sym c.is_active.ensures ∙ c.if-not-is_active.true)) refl (stays s idle)

pub returns-then-must_send : goal.returns-then-must_send
returns-then-must_send g c =
    let s = state_of g.F.Meaning g.T.Meaning c.args.self.now in
    let told : MatchResult c.send.result (λ u. c.map_or.result ≡ Sent) (λ e. c.map_or.result ≡ Waiting) = search rules in
    let a = sending_answer move_answer Sent Waiting c.send.result c.map_or.result refl refl told in
    called s _ move _ [] (send s.session s.transport) (move_sends s (sym c.is_active.ensures ∙ c.if-not-is_active.false) (sym c.if-must_send.ensures)) (copies_nothing s.session s.transport) (answering a c.send.ensures)

pub returns-then-self : goal.returns-then-self
returns-then-self g c =
    let s = state_of g.F.Meaning g.T.Meaning c.args.self.now in
    called s s move idle [] (says s.session idle) (move_rests s (sym c.is_active.ensures ∙ c.if-not-is_active.false) (sym c.if-must_send.ensures) c.if-self.true) refl (stays s idle)

pub returns : goal.returns
returns g c =
    let s = state_of g.F.Meaning g.T.Meaning c.args.self.now in
    called s _ move (move_answer c.take_oldest.result) [] (move_record s.session (oldest s.frames.held))
    (move_looks s (sym c.is_active.ensures ∙ c.if-not-is_active.false) (sym c.if-must_send.ensures) c.if-self.false) (quiet_move s.session (oldest s.frames.held)) c.take_oldest.ensures
