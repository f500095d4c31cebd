-- The two laws of a queue, for the slot queue's room. Assumes nothing.
use Rattle.std.specs.Prelude.{◌≡◌, ℕ, ◌<◌, ◌≤◌, true, List, [], length, nat_lt}
use Rattle.std.proofs.Common.{ap, arith, inl, inr}
use Rattle.std.proofs.lemmas.Bool.{lt-ltb, le-ltb, le-leb, and_parts, cases_lt}
use Rattle.queue.specs.Answers.{fair}
use Rattle.queue.proofs.Admission.{fair_bounds}
use Rattle.slot.specs.Slots.{slot_room, slot_largest}

some_slot : (slots w n : ℕ) → 0 < n → n ≤ slot_largest slots w → 0 < slots
some_slot slots w n p l =
    elim (cases_lt 0 slots) [ inl h ↦ h | inr h ↦ (let t = le-ltb 0 slots h in let m : n ≤ 0 = rw t at l in omega arith) ]

pub slot_vacant : (slots w : ℕ) (held : List (List ℕ)) (n : ℕ) → held ≡ [] → 0 < n → n ≤ slot_largest slots w → slot_room slots w held n ≡ true
slot_vacant slots w held n e p l =
    let z : length held ≡ 0 = ap length e in
    let s = some_slot slots w n p l in
    let a = lt-ltb 0 n p in
    let b = le-leb n (slot_largest slots w) l in
    let c = lt-ltb (length held) slots (omega arith) in
    rw (a, b, c)

pub slot_bounded : (slots w : ℕ) (held : List (List ℕ)) (n : ℕ) → slot_room slots w held n ≡ true → (0 < n) × (n ≤ slot_largest slots w)
slot_bounded slots w held n e =
    let p = and_parts (fair (slot_largest slots w) n) (nat_lt (length held) slots) e in
    fair_bounds (slot_largest slots w) n p.0
