use Rattle.std.proofs.Common.{◌≡◌, Err, take, vec_items, vec_len, length, sym, ap, ◌∙◌, subst, subst₂, rules}
use Rattle.std.proofs.lemmas.List.{take_at}
use Rattle.histories.specs.Calls.{collect, collected}
use Rattle.provider.specs.Answers.{collection_number}
use Rattle.provider.specs.States.{state_of, event, Called}
use Rattle.replay.specs.Events.{event_of}
use Rattle.replay.specs.declared.answer.Answer.TheVariants.{Collected}
use Rattle.replay.specs.declared.call.Call.TheVariants.{Collect}
use Rattle.replay.proofs.Collecting.{cut, nothing_kept}
use Rattle.replay.proofs.playing.collect_into.Goals as goal

pub returns-in_err-count : goal.returns-in_err-count
returns-in_err-count g c =
    let s = state_of g.F.Meaning g.T.Meaning c.args.provider.now in
    let s' = state_of g.F.Meaning g.T.Meaning c.collect.new.self in
    let long : length c.as_mut_slice.result.now ≡ vec_len c.args.octets = search rules in
    let same : c.from_residual.result ≡ Err c.in_err-count.field-0.0 = search rules in
    subst₂ (λ n a. Called s (event_of (Collect n) (Collected a)) s') long (sym same)
    (nothing_kept s s' (length c.as_mut_slice.result.now) (collection_number c.in_err-count.field-0.0) c.in_err-count.ensures.call)

pub returns : goal.returns
returns g c =
    let s = state_of g.F.Meaning g.T.Meaning c.args.provider.now in
    let s' = state_of g.F.Meaning g.T.Meaning c.collect.new.self in
    let v = vec_items c.truncate.new.self in
    let long : length c.as_mut_slice.result.now ≡ vec_len c.args.octets = search rules in
    let same : length c.collect.new.out ≡ c.args.octets.len = search rules in
    let truncated : v ≡ take c.in_ok-count.count c.collect.new.out = c.truncate.ensures.items ∙ ap (take c.in_ok-count.count) (take_at _ _ _ same) in
    subst (λ n. Called s (event (collect n) (collected (length v)) v) s') long
    (cut s s' (length c.as_mut_slice.result.now) c.in_ok-count.count c.as_mut_slice.result.now c.collect.new.out v c.in_ok-count.ensures.call c.in_ok-count.ensures.buffer truncated)
