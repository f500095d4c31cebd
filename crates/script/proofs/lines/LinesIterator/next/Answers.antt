use Rattle.std.proofs.Common.{rules, ◌<◌, length, drop, refl, ap, ◌∙◌}
use Rattle.script.proofs.Runs.{line_is, one_line_more, behind_line}
use Rattle.script.specs.Lines.{ends_line}
use Rattle.script.proofs.lines.LinesIterator.next.Goals as goal

pub returns-clause-steps : goal.returns-clause-steps
returns-clause-steps c =
    let os = c.args.self.now.rest.now in
    let some : 0 < length os = search rules in
    let cut = c.cut_at_first.ensures.cut ends_line (λ o b k. search rules) in
    let line = line_is os c.cut_at_first.result.0.now some cut.0 in
    let rest = behind_line os c.cut_at_first.result.1.now cut.1 in
    (line, c.split_at.ensures.back ∙ ap (λ n. drop n c.cut_at_first.result.1.now) c.min.ensures ∙ rest, c.saturating_add-self.ensures ∙ one_line_more os c.args.self.now.number some, refl)
