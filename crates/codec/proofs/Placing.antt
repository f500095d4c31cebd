-- Blocks placed in a buffer.
use Rattle.std.proofs.Common.{◌≡◌, ℕ, ◌+◌, ◌-◌, ◌≤◌, List, ◌++◌, length, take, drop, sym, ap, ◌∙◌, append_assoc, arith, length-append}
use borrow.Rule.Slice.PartMut.{put_mid}
use Rattle.std.proofs.lemmas.List.{take_at, drop_at, drop-drop, length-take-le}
use Rattle.codec.specs.Blocks.{placed}

-- a write to a part of a slice places what is written
pub put_mid_placed : (out : List ℕ) (at n : ℕ) (ys block : List ℕ) → ys ≡ block → n ≡ length block → put_mid at (at + n - at) out ys ≡ placed out at block
put_mid_placed out at n ys block e l =
    let k : at + (at + n - at) ≡ at + length block = omega arith in
    (λ i. take at out ++ (e i ++ drop (at + n - at) (drop at out))) ∙ ap (λ r. take at out ++ (block ++ r)) (drop-drop (at + n - at) at out ∙ ap (λ m. drop m out) k)

-- two blocks placed one behind the other are their join placed
pub placed_twice : (out a b : List ℕ) (at : ℕ) → at + length a + length b ≤ length out → placed (placed out at a) (at + length a) b ≡ placed out at (a ++ b)
placed_twice out a b at h =
    let t = take at out in
    let d = drop (at + length a) out in
    let p = t ++ a in
    let same : placed out at a ≡ p ++ d = sym (append_assoc t a d) in
    let long : length p ≡ at + length a = length-append t a ∙ ap (λ n. n + length a) (length-take-le at out (omega arith)) in
    let front : take (at + length a) (p ++ d) ≡ p = take_at p d (at + length a) long in
    let back : drop (at + length a + length b) (p ++ d) ≡ drop (at + length a + length b) out =
    sym (drop-drop (length b) (at + length a) (p ++ d)) ∙ ap (drop (length b)) (drop_at p d (at + length a) long) ∙ drop-drop (length b) (at + length a) out in
    let sum : at + length a + length b ≡ at + length (a ++ b) = omega (arith, length-append a b) in
    ap (λ o. placed o (at + length a) b) same ∙ (λ i. front i ++ (b ++ back i)) ∙ ap (λ n. p ++ (b ++ drop n out)) sum ∙ simp append_assoc
