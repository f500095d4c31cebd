use Rattle.std.proofs.Common.{◌≡◌, ◌<◌, ◌++◌, [], ◌∷◌, length, ap, ◌∙◌, rules, arith}
use Rattle.std.proofs.Output.{has_written_append, has_written_of_eq}
use Rattle.std.proofs.lemmas.List.{take_rest}
use Rattle.std.specs.Fmt.{HasWritten}
use Rattle.script.specs.Hexadecimal.{digits_of_octets}
use Rattle.script.proofs.Digits.{one_on, eight_on, printed_on, printed_all}
use Rattle.script.proofs.hexadecimal.HexadecimalDisplay.fmt.Goals as goal

pub loop-rest-preserved : goal.loop-rest-preserved
loop-rest-preserved g c p =
    let (written, has, sum) = c.loop-rest.invariant p in
    let os = c.loop-rest.rest.now in
    let text = c.in_ok-map_err.field-0.now in
    let bytes : text ≡ c.digit.result ∷ (c.digit-in-len8-up.result ∷ (c.digit-in-len8-up-2.result ∷ (c.digit-in-len8-up-3.result ∷ (c.digit-in-len8-up-4.result ∷ (c.digit-in-len8-up-5.result ∷ (c.digit-in-len8-up-6.result ∷ (c.digit-in-len8-up-7.result ∷ (c.digit-in-len8-up-8.result ∷ (c.digit-in-len8-up-9.result ∷ (c.digit-in-len8-up-10.result ∷ (c.digit-in-len8-up-11.result ∷ (c.digit-in-len8-up-12.result ∷ (c.digit-in-len8-up-13.result ∷ (c.digit-in-len8-up-14.result ∷ (c.digit-in-len8-up-15.result ∷ []))))))))))))))) = search rules in
    let digits = bytes ∙ (λ j. c.digit.ensures j ∷ (c.digit-in-len8-up.ensures j ∷ (c.digit-in-len8-up-2.ensures j ∷ (c.digit-in-len8-up-3.ensures j ∷ (c.digit-in-len8-up-4.ensures j ∷ (c.digit-in-len8-up-5.ensures j ∷ (c.digit-in-len8-up-6.ensures j ∷ (c.digit-in-len8-up-7.ensures j ∷ (c.digit-in-len8-up-8.ensures j ∷ (c.digit-in-len8-up-9.ensures j ∷ (c.digit-in-len8-up-10.ensures j ∷ (c.digit-in-len8-up-11.ensures j ∷ (c.digit-in-len8-up-12.ensures j ∷ (c.digit-in-len8-up-13.ensures j ∷ (c.digit-in-len8-up-14.ensures j ∷ (c.digit-in-len8-up-15.ensures j ∷ [])))))))))))))))) in
    let more : HasWritten g.W.Write.write_str_gives c.loop-rest.f text c.write_str.new.self = search rules in
    (written ++ text, has_written_append _ _ _ _ _ _ has more, ap (λ q. (written ++ text) ++ digits_of_octets q) (take_rest os 8) ∙ printed_on written text os _ _ sum (eight_on os text (omega (arith, c.in-len8-up.len_at_least)) digits))

pub loop-rest-2-preserved : goal.loop-rest-2-preserved
loop-rest-2-preserved g c p =
    let (written, has, sum) = c.loop-rest-2.invariant p in
    let os = c.loop-rest-2.rest.now in
    let text = c.in_ok-map_err-2.field-0.now in
    let bytes : text ≡ c.digit-in-len1-up.result ∷ (c.digit-in-len1-up-2.result ∷ []) = search rules in
    let digits = bytes ∙ (λ i. c.digit-in-len1-up.ensures i ∷ (c.digit-in-len1-up-2.ensures i ∷ [])) in
    let more : HasWritten g.W.Write.write_str_gives c.loop-rest-2.f text c.write_str-in-len1-up.new.self = search rules in
    (written ++ text, has_written_append _ _ _ _ _ _ has more, ap (λ q. (written ++ text) ++ digits_of_octets q) (take_rest os 1) ∙ printed_on written text os _ _ sum (one_on os text (omega (arith, c.in-len1-up.len_at_least)) digits))

pub returns-clause-writes : goal.returns-clause-writes
returns-clause-writes g c p t =
    let (first, has, sum) = c.loop-rest.invariant p in
    let (second, more, on) = c.loop-rest-2.invariant has.plain in
    let some : 0 < length c.args.self.now.0.now = search rules in
    has_written_of_eq _ _ _ _ _ (printed_all first second _ c.loop-rest-2.rest.now _ c.in_default-rest.len_below some on sum) (has_written_append _ _ _ _ _ _ has more)
