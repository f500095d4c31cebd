-- What a cut leaves: runs of octets of one class; and the parts that `Lines.next` cuts, which are the first line and what stands behind it.
use Rattle.std.proofs.Common.{◌≡◌, ℕ, suc, Bool, true, false, cond, not, ◌+◌, ◌<◌, ◌≤◌, List, [], ◌∷◌, length, take, drop, Some, ap, ◌∙◌, sym, refl, arith, min, ◌⊎◌, inl, inr}
use Rattle.std.specs.List.{before_first, position_or_len}
use Rattle.std.proofs.lemmas.List.{drop-drop, drop_all, length-take-le}
use Rattle.std.proofs.lemmas.Bool.{cases_lt}
use Rattle.script.specs.Lines.{ends_line, first_line, after_line, number_limit, number_after}
use Rattle.script.specs.Text.{from_first}
use Rattle.script.specs.Runs.{in_class, run_length}
use Rattle.script.specs.declared.run.Class.{Class}

one_on : (b : Bool) (m n : ℕ) → m ≡ n → cond (not (not b)) (1 + m) 0 ≡ cond b (suc n) 0
one_on true m n e = omega (arith, e)
one_on false m n e = refl

one_more : (b : Bool) (r l : ℕ) → r ≤ l → cond b (suc r) 0 ≤ suc l
one_more true r l h = omega arith
one_more false r l h = omega arith

pub run_within : (k : Class) (os : List ℕ) → run_length k os ≤ length os
run_within k [] = omega arith
run_within k (o ∷ os) = one_more (in_class k o) (run_length k os) (length os) (run_within k os)

run_position : (k : Class) (os : List ℕ) → position_or_len (λ o. not (in_class k o)) os ≡ run_length k os
run_position k [] = refl
run_position k (o ∷ os) = one_on (in_class k o) (position_or_len (λ o. not (in_class k o)) os) (run_length k os) (run_position k os)

-- what stands before the first octet of another class is the run
pub run_cut : (k : Class) (os front : List ℕ) → front ≡ before_first (λ o. not (in_class k o)) os → length front ≡ run_length k os
run_cut k os front e = ap length e ∙ ap (λ n. length (take n os)) (run_position k os) ∙ length-take-le (run_length k os) os (run_within k os)

pub line_is : (os front : List ℕ) → 0 < length os → front ≡ before_first ends_line os → Some front ≡ first_line os
line_is [] front h e = absurd (omega arith)
line_is (o ∷ os) front h e = ap Some e

pub one_line_more : (os : List ℕ) (m : ℕ) → 0 < length os → min (m + 1) number_limit ≡ number_after m os
one_line_more [] m h = absurd (omega arith)
one_line_more (o ∷ os) m h = refl

pub behind_line : (os back : List ℕ) → back ≡ from_first ends_line os → drop (min (length back) 1) back ≡ after_line os
behind_line os back e = one (cases_lt 0 (length back)) ∙ ap (drop 1) e ∙ drop-drop 1 (position_or_len ends_line os) os
  where
    one : (0 < length back) ⊎ (length back ≤ 0) → drop (min (length back) 1) back ≡ drop 1 back
    one (inl h) = let m : min (length back) 1 ≡ 1 = omega arith in rw m
    one (inr h) = let e₁ = drop_all (min (length back) 1) back (omega arith) in let e₂ = drop_all 1 back (omega arith) in e₁ ∙ sym e₂
