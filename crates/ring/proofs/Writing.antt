-- A run written into a list: beside another list, behind another run, and read back. Assumes nothing.
use Rattle.std.proofs.Common.{◌≡◌, ℕ, ◌+◌, ◌-◌, ◌<◌, ◌≤◌, List, [], ◌∷◌, ◌++◌, length, take, drop, set, sym, ap, ◌∙◌, append_assoc, append-nil, add-one, arith, length-append, length-drop, length-take, drop-drop, take_at, drop_at}
use lib.Seq.{take-append-add, drop-append-add, take-append-le, drop-append-le, set_split}
use Rattle.std.proofs.lemmas.List.{drop_all}
use borrow.Rule.Slice.PartMut.{put_mid}
use Rattle.ring.specs.Parts.{written}

module _ {X : Type 0} where
  pub length_written : (xs : List X) (at : ℕ) (run : List X) → at + length run ≤ length xs → length (written xs at run) ≡ length xs
  length_written xs at run h = simp (length-append, length-take, length-drop) (omega arith)

  pub written_left : (xs ys : List X) (at : ℕ) (run : List X) → at + length run ≤ length xs → written (xs ++ ys) at run ≡ written xs at run ++ ys
  written_left xs ys at run h =
      let a : at ≤ length xs = omega arith in
      rw (take-append-le at xs ys a, drop-append-le (at + length run) xs ys h) (simp append_assoc)

  pub written_right : (xs ys : List X) (k : ℕ) (run : List X) → written (xs ++ ys) (length xs + k) run ≡ xs ++ written ys k run
  written_right xs ys k run =
      let e : length xs + k + length run ≡ length xs + (k + length run) = omega arith in
      rw (e, take-append-add xs ys k, drop-append-add xs ys (k + length run)) (append_assoc xs (take k ys) (run ++ drop (k + length run) ys))

  -- a second run behind a first one
  pub written_behind : (a b ys : List X) (at : ℕ) → length a ≡ at → written (a ++ ys) at b ≡ (a ++ b) ++ drop (length b) ys
  written_behind a b ys at h =
      let e : at ≡ length a + 0 = omega arith in
      let z : 0 + length b ≡ length b = omega arith in
      ap (λ n. written (a ++ ys) n b) e ∙ written_right a ys 0 b ∙ ap (λ n. a ++ (b ++ drop n ys)) z ∙ sym (append_assoc a b (drop (length b) ys))

  pub written_twice : (xs : List X) (at : ℕ) (a b : List X) → at ≤ length xs → written (written xs at a) (at + length a) b ≡ written xs at (a ++ b)
  written_twice xs at a b h =
      let front = take at xs ++ a in
      let back = drop (at + length a) xs in
      let l : length front ≡ at + length a = simp (length-append, length-take) (omega arith) in
      let e : (at + length a) + length b ≡ at + length (a ++ b) = simp length-append (omega arith) in
      ap (λ q. written q (at + length a) b) (sym (append_assoc (take at xs) a back)) ∙ written_behind front b back (at + length a) l
      ∙ ap (λ q. (front ++ b) ++ q) (drop-drop (length b) (at + length a) xs ∙ ap (λ n. drop n xs) e) ∙ simp append_assoc

  -- a buffer whose front is filled, and then its rest
  pub filled_behind : (a b out : List X) (t : ℕ) → length a ≡ t → t ≤ length out → put_mid t (length (a ++ drop t out) - t) (a ++ drop t out) b ≡ a ++ b
  filled_behind a b out t h l =
      let front = take_at a (drop t out) t h in
      let back = drop_at a (drop t out) t h in
      let none = drop_all (length (a ++ drop t out) - t) (drop t out) (simp (length-append, length-drop) (omega arith)) in
      rw (front, back, none) (ap (λ q. a ++ q) (append-nil b))

  pub take_written : (xs : List X) (at : ℕ) (run : List X) → at ≤ length xs → take (at + length run) (written xs at run) ≡ take at xs ++ run
  take_written xs at run h =
      let l : length (take at xs ++ run) ≡ at + length run = simp (length-append, length-take) (omega arith) in
      ap (take (at + length run)) (sym (append_assoc (take at xs) run (drop (at + length run) xs))) ∙ take_at (take at xs ++ run) (drop (at + length run) xs) (at + length run) l

  pub set_written : (xs : List X) (at : ℕ) (x : X) → at < length xs → set xs at x ≡ written xs at (x ∷ [])
  set_written xs at x h = rw add-one (set_split xs at x h)
