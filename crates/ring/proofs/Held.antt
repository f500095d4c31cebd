-- What a ring holds and answers, from its slots. Assumes nothing.
use Rattle.std.proofs.Common.{◌≡◌, ℕ, ◌+◌, ◌-◌, ◌<◌, ◌≤◌, List, [], ◌∷◌, length, get_or, take, drop, sym, ap, ◌∙◌, arith}
use Rattle.std.proofs.lemmas.List.{get_or-take}
use Rattle.queue.specs.Answers.{gives, refuses}
use Rattle.ring.specs.declared.ring.Ring.{Ring}
use Rattle.ring.specs.Parts.{written, part_read}
use Rattle.ring.specs.Turns.{turned, placed}
use Rattle.ring.specs.Rings.{elements, size, element_answer, added, dropped}
use Rattle.ring.proofs.Elements.{element_held, element_past}
use Rattle.ring.proofs.Granted.{added_whole, dropped_whole, read_within}
use Rattle.ring.proofs.Turning.{length_turned, length_held, held_run, dropped_on}
use Rattle.ring.proofs.Writing.{take_written}

-- The slots from the start on.
abbrev pub round : {X : Type 0} → Ring X → List X
round r = turned r.start r.slots.now

module _ {X : Type 0} where
  held_count : (r : Ring X) → length (elements r) ≡ r.count
  held_count r = length_held r.start r.count r.slots.now r.fits

  pub added_behind : (r : Ring X) (ys run : List X) → length run ≤ size r - r.count → ys ≡ written (round r) r.count run → take (r.count + length run) ys ≡ added (elements r) (size r) run
  added_behind r ys run h e =
      let c = held_count r in
      let f = r.fits in
      let l = length_turned r.start r.slots.now in
      ap (take (r.count + length run)) e ∙ take_written (round r) r.count run (omega arith) ∙ sym (added_whole (elements r) (size r) run (omega arith))

  pub pushed_behind : (r : Ring X) (ys : List X) (x : X) → r.count < size r → ys ≡ written (round r) r.count (x ∷ []) → take (r.count + 1) ys ≡ added (elements r) (size r) (x ∷ [])
  pushed_behind r ys x h e = added_behind r ys (x ∷ []) (omega arith) e

  pub dropped_behind : (r : Ring X) (p n : ℕ) → p ≡ placed r.start n (size r) → n ≤ r.count → take (r.count - n) (turned p r.slots.now) ≡ dropped (elements r) n
  dropped_behind r p n e h =
      let c = held_count r in
      ap (λ q. take (r.count - n) (turned q r.slots.now)) e ∙ dropped_on r.start r.count n r.slots.now r.begins h r.fits ∙ sym (dropped_whole (elements r) n (omega arith))

  pub read_behind : (r : Ring X) (from : ℕ) (out out' : List X) → from + length out ≤ r.count → out' ≡ take (length out) (drop from (round r)) → out' ≡ part_read (elements r) from out
  read_behind r from out out' h e =
      let c = held_count r in
      e ∙ held_run r.start r.count from (length out) r.slots.now h ∙ sym (read_within (elements r) from out (omega arith))

  pub read_is : (r : Ring X) (at : ℕ) (x : X) → at < r.count → x ≡ get_or (round r) at x → gives x ≡ element_answer (elements r) at
  read_is r at x h e =
      let c = held_count r in
      sym (element_held (elements r) at x (omega arith) (e ∙ sym (get_or-take r.count (round r) at x h)))

  pub read_refused : (r : Ring X) (at : ℕ) → r.count ≤ at → refuses 31 ≡ element_answer (elements r) at
  read_refused r at h = let c = held_count r in sym (element_past (elements r) at (omega arith))
