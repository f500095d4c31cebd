use Rattle.std.proofs.Common.{[], refl, ap}
use Rattle.histories.specs.Calls.{invoke, says}
use Rattle.histories.specs.Invocations.{invoke_by}
use Rattle.provider.specs.Answers.{invocation_answer, opening_answer}
use Rattle.provider.specs.Sessions.{settings_of, session_of}
use Rattle.provider.specs.States.{state_of}
use Rattle.provider.proofs.Claims.{called}
use Rattle.provider.proofs.Invoking.{invocation_quiet}
use Rattle.provider.proofs.provider.Provider.invoke.Goals as goal

pub returns : goal.returns
returns g c =
    let p = c.args.self.now in
    let octets = c.args.octets.now in
    let o = invoke_by (settings_of p.session.settings) (session_of p.session) octets in
    called (state_of g.F.Meaning g.T.Meaning p) _ (invoke octets) (invocation_answer c.invoke.result) [] (says o.session o.answer) (invocation_quiet (settings_of p.session.settings) (session_of p.session) octets) refl
    (record {
      answer = c.invoke.ensures.answer;
      settings = ap settings_of c.invoke.ensures.kept.settings;
      opening = ap opening_answer c.invoke.ensures.kept.opening;
      session = c.invoke.ensures.session;
      frames = refl;
      transport = refl;
    })
