use Rattle.std.proofs.Common.{◌≡◌, Err, sym, ap, ◌∙◌, rules}
use Rattle.histories.specs.Provider.{in_range}
use Rattle.provider.specs.Answers.{opening_answer, opening_refusal_number}
use Rattle.provider.specs.Opening.{opening_asked, queues_number}
use Rattle.provider.specs.Sessions.{settings_of}
use Rattle.provider.specs.States.{queue_of}
use Rattle.provider.specs.declared.answer.OpeningRefusal.TheVariants.{SettingsOutOfRange}
use Rattle.provider.proofs.Opening.{out_of_range, in_range_lem, was_refused, was_accepted}
use Rattle.provider.proofs.provider.opening.accept.Goals as goal

pub returns-in_err-settings-clause-answer : goal.returns-in_err-settings-clause-answer
returns-in_err-settings-clause-answer g c =
    let a = opening_asked c.args.opening.now in
    let same : c.from_residual.result ≡ Err c.in_err-settings.field-0.0 = search rules in
    let refused = was_refused SettingsOutOfRange (in_range a) a c.in_err-settings.field-0.0 c.in_err-settings.ensures in
    ap opening_answer same ∙ ap opening_refusal_number refused.1 ∙ sym (out_of_range a (queue_of g.F.Meaning c.args.frames.now) (queue_of g.T.Meaning c.args.transport.now) refused.0)

pub returns-in_err-check_queues-clause-answer : goal.returns-in_err-check_queues-clause-answer
returns-in_err-check_queues-clause-answer g c =
    let a = opening_asked c.args.opening.now in
    let f = queue_of g.F.Meaning c.args.frames.now in
    let t = queue_of g.T.Meaning c.args.transport.now in
    let same : c.from_residual-in_err-check_queues.result ≡ Err c.in_err-check_queues.field-0.0 = search rules in
    let accepted = was_accepted SettingsOutOfRange (in_range a) a (settings_of c.in_ok-settings.settings) c.in_ok-settings.ensures in
    ap opening_answer same ∙ c.in_err-check_queues.ensures.answer ∙ ap (λ x. queues_number x.buffer_size f t) accepted.1 ∙ sym (in_range_lem a f t accepted.0)

pub returns-clause-answer : goal.returns-clause-answer
returns-clause-answer g c =
    let a = opening_asked c.args.opening.now in
    let f = queue_of g.F.Meaning c.args.frames.now in
    let t = queue_of g.T.Meaning c.args.transport.now in
    let accepted = was_accepted SettingsOutOfRange (in_range a) a (settings_of c.in_ok-settings.settings) c.in_ok-settings.ensures in
    c.in_ok-check_queues.ensures.answer ∙ ap (λ x. queues_number x.buffer_size f t) accepted.1 ∙ sym (in_range_lem a f t accepted.0)
