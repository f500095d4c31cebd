-- What an add and a read come to. Assumes nothing.
use Rattle.std.proofs.Common.{◌≡◌, ℕ, ◌+◌, ◌*◌, ◌<◌, ◌≤◌, true, List, [], ◌∷◌, ◌++◌, map, length, sym, ap, ◌∙◌, subst, add-one, arith}
use Rattle.std.proofs.lemmas.List.{map_push, length_push}
use Rattle.ring.specs.Parts.{written, part_written}
use Rattle.ring.specs.Memories.{contents}
use Rattle.ring.specs.Rings.{elements, size, added}
use Rattle.ring.proofs.Granted.{added_whole, written_within}
use Rattle.slot.specs.Slots.{noted}
use Rattle.slot.specs.Placing.{onward, slot_after, in_turn}
use Rattle.slot.specs.declared.note.SlotNote.{SlotNote}
use Rattle.slot.specs.declared.slotted.Slotted.{Slotted}
use Rattle.slot.specs.Holding.{held_in}
use Rattle.slot.proofs.Cutting.{own_cut}
use Rattle.ring.proofs.Writing.{length_written}
use Rattle.slot.proofs.Placing.{slot_after_at, distinct, below, beside, placed_push, slot_after_more, placed_from, placed_to}

slot_fits : (s w f k l : ℕ) → f < s → k < s → s * w ≤ l → slot_after s f k * w + w ≤ l
slot_fits s w f k l h m fits = let b = below (slot_after s f k) s w (slot_after_at s f k h m).0 in omega arith

filed : (s w f next next' : ℕ) (ns ns' : List SlotNote) (o o' r : List ℕ)
    → in_turn s w f ns ≡ true → s * w ≤ length o → f < s → next ≡ slot_after s f (length ns) → length ns < s → length r ≤ w
    → ns' ≡ ns ++ (record { place = next * w; length = length r } ∷ []) → o' ≡ written o (next * w) r → next' ≡ onward s next
    → (in_turn s w f ns' ≡ true) × (length o' ≡ length o) × (length ns' ≤ s) × (next' ≡ slot_after s f (length ns')) × (map (noted o') ns' ≡ map (noted o) ns ++ (r ∷ []))
filed s w f next next' ns ns' o o' r p fits fs ne few short nse oe on =
    let note : SlotNote = record { place = next * w; length = length r } in
    let room : next * w + w ≤ length o = subst (λ q. q * w + w ≤ length o) (sym ne) (slot_fits s w f (length ns) (length o) fs few fits) in
    let pl = placed_from s w f ns p in
    let len : length ns' ≡ length ns + 1 = ap length nse ∙ length_push ns note in
    let lw : length o' ≡ length o = ap length oe ∙ length_written o (next * w) r (omega arith) in
    let pushed = placed_to s w f (ns ++ (note ∷ [])) (placed_push s w f ns note pl (ap (λ q. q * w) ne) short) in
    let kept = beside s w f ns next o r pl (λ j lt e. distinct s f j (length ns) fs lt few (e ∙ ne)) short (omega arith) in (
      ap (in_turn s w f) nse ∙ pushed,
      lw,
      omega arith,
      on ∙ ap (onward s) ne ∙ sym (slot_after_more s f (length ns)) ∙ ap (slot_after s f) (sym (len ∙ add-one (length ns))),
      ap (λ q. map (noted q) ns') oe ∙ ap (map (noted (written o (next * w) r))) nse ∙ map_push (noted (written o (next * w) r)) ns note
          ∙ ap (λ q. q ++ (noted (written o (next * w) r) note ∷ [])) kept ∙ ap (λ q. map (noted o) ns ++ (q ∷ [])) (own_cut o (next * w) r (omega arith)),
    )

-- Where the next record goes, while there is a free slot.
pub next_in : (q : Slotted) → length (elements q.notes) < q.slots → (q.next < q.slots) × (q.next * q.width + q.width ≤ length (contents q.octets))
next_in q free =
    let k = length (elements q.notes) in
    let first : q.first < q.slots = q.begins (omega arith) in
    let at = (slot_after_at q.slots q.first k first free).0 in
    let room = slot_fits q.slots q.width q.first k (length (contents q.octets)) first free q.within in
    let e = ap (λ x. x * q.width) q.follows in
    (omega (arith, at, q.follows), omega (arith, room, e))

-- The notes ns', the octets o' and the slot next' are those after a record is put.
abbrev pub Put : Slotted → List SlotNote → List ℕ → ℕ → List ℕ → Type 0
Put q ns' o' next' r =
    (in_turn q.slots q.width q.first ns' ≡ true) × (length o' ≡ length (contents q.octets)) × (length ns' ≤ q.slots)
    × (next' ≡ slot_after q.slots q.first (length ns')) × (map (noted o') ns' ≡ held_in q ++ (r ∷ []))

pub put_done : (q : Slotted) (ns' : List SlotNote) (o' : List ℕ) (next' : ℕ) (r : List ℕ) → length (elements q.notes) < q.slots → length r ≤ q.width
    → ns' ≡ added (elements q.notes) (size q.notes) (record { place = q.next * q.width; length = length r } ∷ [])
    → o' ≡ part_written (contents q.octets) (q.next * q.width) r → next' ≡ onward q.slots q.next → Put q ns' o' next' r
put_done q ns' o' next' r free short nse oe on =
    let ns = elements q.notes in
    let o = contents q.octets in
    let at = next_in q free in
    let note : SlotNote = record { place = q.next * q.width; length = length r } in
    filed q.slots q.width q.first q.next next' ns ns' o o' r q.placed q.within (q.begins (omega arith)) q.follows free short
    (nse ∙ added_whole ns (size q.notes) (note ∷ []) (omega (arith, q.noted))) (oe ∙ written_within o (q.next * q.width) r (omega (arith, at.1))) on
