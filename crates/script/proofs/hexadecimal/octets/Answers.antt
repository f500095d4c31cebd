use Rattle.std.proofs.Common.{◌≡◌, ◌+◌, ◌*◌, ◌++◌, ◌∷◌, [], vec_items, ◌∙◌, rules, arith}
use Rattle.std.proofs.lemmas.List.{take_rest}
use Rattle.script.specs.Hexadecimal.{octets_of_digits}
use Rattle.script.proofs.Digits.{onto, octet_on, odd_none}
use Rattle.script.proofs.hexadecimal.octets.Goals as goal

pub loop-rest-preserved : goal.loop-rest-preserved
loop-rest-preserved c =
    let ds = c.loop-rest.rest.now in
    let high = c.in-Some.high in
    let low = c.in-Some-digit_value.low in
    let xs = vec_items c.loop-rest.octets in
    let pushed : vec_items c.push.new.self ≡ xs ++ ((high * 16 + low) ∷ []) = search rules in
    (λ i. onto (pushed i) (octets_of_digits (take_rest ds 2 i))) ∙ octet_on ds xs high low (omega (arith, c.in-len2-up.len_at_least)) c.in-Some.ensures.value c.in-Some-digit_value.ensures.value ∙ c.loop-rest.invariant

pub returns-then-word-ne0 : goal.returns-then-word-ne0
returns-then-word-ne0 c = odd_none c.args.word.now (search rules)
