use Rattle.std.proofs.Common.{rules, ◌≡◌, true, ap, ◌∙◌, Ok, arith}
use Rattle.std.specs.List.{list_all}
use Rattle.std.specs.Char.{is_ascii_digit}
use Rattle.script.proofs.Decimals.{taken, too_large}
use Rattle.script.proofs.number.number.Goals as goal

pub returns-in-Some-clause-answer : goal.returns-in-Some-clause-answer
returns-in-Some-clause-answer c =
    let digits : list_all is_ascii_digit c.args.word.now ≡ true = search rules in
    ap Ok c.in-Some.ensures ∙ taken c.args.word.now c.args.most digits (omega (arith, c.in-Some.ensures))

pub returns-in_default-clause-answer : goal.returns-in_default-clause-answer
returns-in_default-clause-answer c =
    let digits : list_all is_ascii_digit c.args.word.now ≡ true = search rules in
    too_large c.args.word.now c.args.most digits (omega (arith, c.in-Some.ensures))

pub returns-in_default-2-clause-answer : goal.returns-in_default-2-clause-answer
returns-in_default-2-clause-answer c =
    let digits : list_all is_ascii_digit c.args.word.now ≡ true = search rules in
    too_large c.args.word.now c.args.most digits (omega (arith, c.in_default.ensures))
