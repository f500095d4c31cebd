use Rattle.std.proofs.Common.{rules, ◌≡◌, true, false, sym, refl, ap, ◌∙◌, take, drop}
use Rattle.std.specs.List.{position_or_len}
use Rattle.std.proofs.lemmas.Iterator.{IsFirst-from_position, index_from_first, YieldsList-from_slice}
use Rattle.script.proofs.cut.cut_at_first.Goals as goal

pub returns-clause-cut : goal.returns-clause-cut
returns-clause-cut g c p h =
    let text = c.args.text.now in
    let first = IsFirst-from_position _ _ c.position.result (λ x. p x ≡ true) (λ x. p x ≡ false) c.position.ensures.ran (YieldsList-from_slice text cc) (λ x q k. sym (h x.now true (search rules))) (λ x q k. (search rules, sym (h x.now false (search rules)))) in
    let cut : position_or_len p text ≡ c.unwrap_or-length.result = index_from_first (position_or_len p) (λ x. p x ≡ true) (λ x. p x ≡ false) refl (λ x xs e. search rules) (λ x xs e. search rules) text c.position.result first ∙ sym c.unwrap_or-length.ensures in
    (c.split_at.ensures.front ∙ ap (λ n. take n text) (sym cut), c.split_at.ensures.back ∙ ap (λ n. drop n text) (sym cut))
