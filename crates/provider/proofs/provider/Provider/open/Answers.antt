use Rattle.std.proofs.Common.{◌≡◌, sym, ◌∙◌}
use Rattle.histories.specs.Provider.{opened}
use Rattle.provider.specs.Answers.{opening_answer}
use Rattle.provider.specs.Opening.{opening_asked}
use Rattle.provider.specs.States.{queue_of, state_of}
use Rattle.provider.proofs.Queues.{kept_queue, lawful_queue}
use Rattle.provider.proofs.Opening.{opened_is, begins, kept_is}
use Rattle.provider.proofs.provider.Provider.open.Goals as goal

pub returns : goal.returns
returns g c =
    let a = opening_asked c.args.opening in
    let f = queue_of g.F.Meaning c.args.frames in
    let t = queue_of g.T.Meaning c.args.transport in
    let told = c.accept-accepted.ensures in
    let s = state_of g.F.Meaning g.T.Meaning (record { session = c.fresh.result; frames = c.accept-accepted.new.frames; transport = c.accept-accepted.new.transport }) in
    let is : s ≡ opened a f t = opened_is s a f t (opening_answer c.accept-accepted.result) (sym told.answer) (c.fresh.ensures.settings ∙ kept_is c.accept-accepted.result a told.settings)
    c.fresh.ensures.opening c.fresh.ensures.session (kept_queue g.F.Meaning c.args.frames c.accept-accepted.new.frames told.frames) (kept_queue g.T.Meaning c.args.transport c.accept-accepted.new.transport told.transport) in
    record {
      opened = is;
      begins = begins s a f t (lawful_queue g.F.Meaning c.args.frames) (lawful_queue g.T.Meaning c.args.transport) is;
    }
