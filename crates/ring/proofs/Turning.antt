-- A list that is read from a place on, and round its end: where its places stand, and what a write, a read and a step leave. Assumes nothing.
use Rattle.std.proofs.Common.{◌≡◌, ℕ, ◌+◌, ◌-◌, ◌<◌, ◌≤◌, ◌⊎◌, List, ◌++◌, length, get_or, take, drop, sym, ap, ◌∙◌, inl, inr, append_assoc, arith, length-append, length-drop, take-append-drop, length-take, length-take-le, take-take, drop-drop, take_at, take-add, drop_at}
use lib.Seq.{take-append-add, drop-append-add, take-append-le, drop-append-le}
use Rattle.std.proofs.lemmas.List.{drop-take, get_or_append_left, get_or-drop}
use Rattle.std.proofs.lemmas.Bool.{cases_lt, lt-ltb, le-ltb}
use Rattle.ring.specs.Turns.{turned, placed}
use Rattle.ring.specs.Parts.{written}
use Rattle.ring.proofs.Writing.{length_written, written_left, written_right, written_twice}

-- a place stands behind `start` or before it
abbrev Ways : ℕ → ℕ → ℕ → Type 0
Ways s k n = ((k < n - s) × (placed s k n ≡ s + k)) ⊎ ((n - s ≤ k) × (placed s k n ≡ k - (n - s)))

ways : (s k n : ℕ) → Ways s k n
ways s k n =
    elim (cases_lt k (n - s)) [
      | inl h ↦ (inl (h, (let t = lt-ltb k (n - s) h in rw t)))
      | inr h ↦ (inr (h, (let t = le-ltb k (n - s) h in rw t)))
    ]

pub placed_within : (s k n : ℕ) → s ≤ n → k ≤ n → placed s k n ≤ n
placed_within s k n h l = elim (ways s k n) [ inl w ↦ (omega (arith, w.0, w.1)) | inr w ↦ (omega (arith, w.0, w.1)) ]

pub placed_below : (s k n : ℕ) → s ≤ n → k < n → placed s k n < n
placed_below s k n h l = elim (ways s k n) [ inl w ↦ (omega (arith, w.0, w.1)) | inr w ↦ (omega (arith, w.0, w.1)) ]

module _ {X : Type 0} where
  pub length_turned : (s : ℕ) (xs : List X) → length (turned s xs) ≡ length xs
  length_turned s xs = simp (length-append, length-drop, length-take) (omega arith)

  pub length_held : (s c : ℕ) (xs : List X) → c ≤ length xs → length (take c (turned s xs)) ≡ c
  length_held s c xs h = simp length-take (let e = length_turned s xs in omega arith)

  turned_at : (a b : List X) (s : ℕ) → length a ≡ s → turned s (a ++ b) ≡ b ++ a
  turned_at a b s h = rw (drop_at a b s h, take_at a b s h)

  -- to turn on from a place is to turn twice
  turned_twice : (s k : ℕ) (xs : List X) → s ≤ length xs → k ≤ length xs → turned (placed s k (length xs)) xs ≡ turned k (turned s xs)
  turned_twice s k xs h l =
      let d = drop s xs in
      let t = take s xs in
      let ld : length d ≡ length xs - s = length-drop s xs in
      elim (ways s k (length xs)) [
        | inl w ↦ (let kd : k ≤ length d = omega (arith, w.0) in
            rw (w.1, drop-append-le k d t kd, take-append-le k d t kd, drop-drop k s xs, take-add s k xs) (sym (append_assoc (drop (s + k) xs) t (take k d))))
        | inr w ↦ (let j = k - (length xs - s) in
            let js : j ≤ s = omega arith in
            let jt : j ≤ length t = simp length-take (omega arith) in
            let kj : length d + j ≡ k = omega (arith, w.0) in
            let both : turned k (d ++ t) ≡ drop j t ++ (d ++ take j t) = ap (λ q. turned q (d ++ t)) (sym kj) ∙ rw (drop-append-add d t j, take-append-add d t j) in
            let back : drop j t ++ d ≡ drop j xs = sym (drop-append-le j t d jt) ∙ ap (drop j) (take-append-drop s xs) in
            rw w.1 (ap (λ q. q ++ take j xs) (sym back) ∙ append_assoc (drop j t) d (take j xs) ∙ ap (λ q. drop j t ++ (d ++ q)) (sym (take-take j s xs js)) ∙ sym both))
      ]

  -- a run that does not go over the end
  pub write_whole : (s k : ℕ) (xs run : List X) → s ≤ length xs → k + length run ≤ length xs → placed s k (length xs) + length run ≤ length xs
      → turned s (written xs (placed s k (length xs)) run) ≡ written (turned s xs) k run
  write_whole s k xs run h l m =
      let a = take s xs in
      let b = drop s xs in
      let la : length a ≡ s = length-take-le s xs h in
      let lb : length b ≡ length xs - s = length-drop s xs in
      let ab : xs ≡ a ++ b = sym (take-append-drop s xs) in
      elim (ways s k (length xs)) [
        | inl w ↦ (let at : placed s k (length xs) ≡ length a + k = omega (arith, w.1) in
            let in_b : k + length run ≤ length b = omega (arith, w.1) in
            ap (λ p. turned s (written xs p run)) at ∙ ap (λ q. turned s (written q (length a + k) run)) ab ∙ ap (turned s) (written_right a b k run)
            ∙ turned_at a (written b k run) s la ∙ sym (written_left b a k run in_b))
        | inr w ↦ (let j = k - (length xs - s) in
            let in-a : j + length run ≤ length a = omega arith in
            let k-is : length b + j ≡ k = omega (arith, w.0) in
            ap (λ p. turned s (written xs p run)) w.1 ∙ ap (λ q. turned s (written q j run)) ab ∙ ap (turned s) (written_left a b j run in-a)
            ∙ turned_at (written a j run) b s (length_written a j run in-a ∙ la) ∙ sym (written_right b a j run) ∙ ap (λ p. written (b ++ a) p run) k-is)
      ]

  -- a run that does
  pub write_parts : (s k t : ℕ) (xs run : List X) → s ≤ length xs → k + length run ≤ length xs → t ≡ length xs - placed s k (length xs) → t < length run
      → turned s (written (written xs (placed s k (length xs)) (take t run)) 0 (drop t run)) ≡ written (turned s xs) k run
  write_parts s k t xs run h l e m =
      let n = length xs in
      let p = placed s k n in
      let front = take t run in
      let back = drop t run in
      let lf : length front ≡ t = length-take-le t run (omega arith) in
      let lb : length back ≡ length run - t = length-drop t run in
      let within = placed_within s k n h (omega arith) in
      let first = written xs p front in
      let l1 : length first ≡ n = length_written xs p front (omega arith) in
      let kt : k + t ≡ n - s = elim (ways s k n) [ inl w ↦ (omega (arith, w.0, w.1)) | inr w ↦ (omega (arith, w.0, w.1)) ] in
      let zero_is : placed s (k + length front) (length first) ≡ 0 = let f = le-ltb (k + length front) (length first - s) (omega arith) in rw f (omega arith) in
      let one = write_whole s k xs front h (omega arith) (omega arith) in
      let two = write_whole s (k + length front) first back (omega arith) (omega arith) (omega arith) in
      ap (λ q. turned s (written first q back)) (sym zero_is) ∙ two ∙ ap (λ q. written q (k + length front) back) one
      ∙ written_twice (turned s xs) k front back (let lt = length_turned s xs in omega arith) ∙ ap (written (turned s xs) k) (take-append-drop t run)

  -- what stands from a place on
  from_place : (s k n : ℕ) (xs : List X) → s ≤ length xs → k + n ≤ length xs → take n (drop k (turned s xs)) ≡ take n (turned (placed s k (length xs)) xs)
  from_place s k n xs h l =
      let y = turned s xs in
      let ly = length_turned s xs in
      let ld : n ≤ length (drop k y) = simp length-drop (omega arith) in
      sym (take-append-le n (drop k y) (take k y) ld) ∙ ap (take n) (sym (turned_twice s k xs h (omega arith)))

  pub read_whole : (s k n : ℕ) (xs : List X) → s ≤ length xs → k + n ≤ length xs → placed s k (length xs) + n ≤ length xs
      → take n (drop (placed s k (length xs)) xs) ≡ take n (drop k (turned s xs))
  read_whole s k n xs h l m =
      let p = placed s k (length xs) in
      let ld : n ≤ length (drop p xs) = simp length-drop (omega arith) in
      sym (from_place s k n xs h l ∙ take-append-le n (drop p xs) (take p xs) ld)

  pub read_parts : (s k n t : ℕ) (xs : List X) → s ≤ length xs → k + n ≤ length xs → t ≡ length xs - placed s k (length xs) → t < n
      → drop (placed s k (length xs)) xs ++ take (n - t) xs ≡ take n (drop k (turned s xs))
  read_parts s k n t xs h l e m =
      let p = placed s k (length xs) in
      let d = drop p xs in
      let ld : length d + (n - t) ≡ n = let q = length-drop p xs in omega arith in
      let within = placed_within s k (length xs) h (omega arith) in
      sym (from_place s k n xs h l ∙ ap (λ q. take q (turned p xs)) (sym ld) ∙ take-append-add d (take p xs) (n - t) ∙ ap (λ q. d ++ q) (take-take (n - t) p xs (omega arith)))

  pub element_at : (s k : ℕ) (xs : List X) (x : X) → s ≤ length xs → k < length xs → get_or (turned s xs) k x ≡ get_or xs (placed s k (length xs)) x
  element_at s k xs x h l =
      let y = turned s xs in
      let p = placed s k (length xs) in
      let ly = length_turned s xs in
      let below = placed_below s k (length xs) h l in
      let yd : 0 < length (drop k y) = simp length-drop (omega arith) in
      let xd : 0 < length (drop p xs) = simp length-drop (omega arith) in
      let k0 : k ≡ k + 0 = omega arith in
      let p0 : p + 0 ≡ p = omega arith in
      ap (λ q. get_or y q x) k0 ∙ sym (get_or-drop k y 0 x) ∙ sym (get_or_append_left (drop k y) (take k y) x 0 yd) ∙ ap (λ q. get_or q 0 x) (sym (turned_twice s k xs h (omega arith)))
      ∙ get_or_append_left (drop p xs) (take p xs) x 0 xd ∙ get_or-drop p xs 0 x ∙ ap (λ q. get_or xs q x) p0

  -- the held elements after `n` of them are dropped
  pub dropped_on : (s c n : ℕ) (xs : List X) → s ≤ length xs → n ≤ c → c ≤ length xs
      → take (c - n) (turned (placed s n (length xs)) xs) ≡ drop n (take c (turned s xs))
  dropped_on s c n xs h l m =
      let e : n + (c - n) ≡ c = omega arith in
      sym (from_place s n (c - n) xs h (omega arith)) ∙ sym (drop-take n (c - n) (turned s xs)) ∙ ap (λ q. drop n (take q (turned s xs))) e

  -- a run that stands among the held elements
  pub held_run : (s c from n : ℕ) (xs : List X) → from + n ≤ c → take n (drop from (turned s xs)) ≡ take n (drop from (take c (turned s xs)))
  held_run s c from n xs h =
      let y = turned s xs in
      let e : from + (c - from) ≡ c = omega arith in
      sym (take-take n (c - from) (drop from y) (omega arith)) ∙ ap (take n) (sym (drop-take from (c - from) y)) ∙ ap (λ q. take n (drop from (take q y))) e
