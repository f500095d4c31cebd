use Rattle.std.proofs.Common.{rules, not}
use Rattle.script.specs.Runs.{in_class}
use Rattle.script.proofs.Runs.{run_cut}
use Rattle.script.proofs.run.run_length.Goals as goal

pub returns-clause-answer : goal.returns-clause-answer
returns-clause-answer c =
    let class = c.args.class in
    run_cut class c.args.text.now c.cut_at_first.result.0.now (c.cut_at_first.ensures.cut (λ o. not (in_class class o)) (λ o b k. search rules)).0
