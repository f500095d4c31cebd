-- The slots that a run of notes takes. Assumes nothing.
use Rattle.std.proofs.Common.{◌≡◌, ℕ, zero, suc, ◌+◌, ◌*◌, ◌<◌, ◌≤◌, true, ◌&&◌, eqb, leb, ◌⊎◌, List, [], ◌∷◌, ◌++◌, map, length, refl, ap, ◌∙◌, inl, inr, mul-le-mul_right, suc-mul, arith}
use Rattle.std.proofs.lemmas.Bool.{cases_lt, cases_order, lt-ltb, le-ltb, and_parts, eqb-true, leb-true, eq-eqb, le-leb}
use Rattle.ring.specs.Parts.{written}
use Rattle.slot.specs.Slots.{noted}
use Rattle.slot.specs.Placing.{onward, slot_after, in_turn}
use Rattle.slot.specs.declared.note.SlotNote.{SlotNote}
use Rattle.slot.proofs.Cutting.{other_cut}

-- The same as in-turn, as facts.
abbrev pub Placed : ℕ → ℕ → ℕ → List SlotNote → Type 0
Placed slots w f [] = Unit {0}
Placed slots w f (n ∷ ns) = (n.place ≡ f * w) × (n.length ≤ w) × Placed slots w (onward slots f) ns

pub onward_at : (s f : ℕ) → f < s → ((f + 1 < s) × (onward s f ≡ f + 1)) ⊎ ((f + 1 ≡ s) × (onward s f ≡ 0))
onward_at s f h =
    elim (cases_lt (f + 1) s) [
      | inl l ↦ inl (l, (let t = lt-ltb (f + 1) s l in rw t))
      | inr l ↦ inr (omega arith, (let t = le-ltb (f + 1) s l in rw t))
    ]

-- which slot lies k further: it goes round at most once
pub slot_after_at : (s f k : ℕ) → f < s → k < s → (slot_after s f k < s) × ((slot_after s f k ≡ f + k) ⊎ (slot_after s f k + s ≡ f + k))
slot_after_at s f zero h l = (h, inl (omega arith))
slot_after_at s f (suc k) h l =
    elim (onward_at s f h) [
      | inl p ↦ (let x = p.1 in let q = slot_after_at s (onward s f) k (omega arith) (omega arith) in
          (q.0, elim q.1 [ inl e ↦ inl (omega arith) | inr e ↦ inr (omega arith) ]))
      | inr p ↦ (let x = p.1 in let q = slot_after_at s (onward s f) k (omega arith) (omega arith) in
          (q.0, elim q.1 [ inl e ↦ inr (omega arith) | inr e ↦ absurd (let y = q.0 in omega arith) ]))
    ]

pub distinct : (s f j k : ℕ) → f < s → j < k → k < s → slot_after s f j ≡ slot_after s f k → ⊥
distinct s f j k h l m e =
    let a = slot_after_at s f j h (omega arith) in
    let b = slot_after_at s f k h m in
    elim a.1 [
      | inl x ↦ elim b.1 [ inl y ↦ omega arith | inr y ↦ omega arith ]
      | inr x ↦ elim b.1 [ inl y ↦ omega arith | inr y ↦ omega arith ]
    ]

-- a lower slot ends before a higher one begins
pub below : (a b w : ℕ) → a < b → a * w + w ≤ b * w
below a b w h = let m : suc a * w ≤ b * w = mul-le-mul_right w h in rw (suc-mul a w) at m

apart : (a b w : ℕ) → (a ≡ b → ⊥) → (a * w + w ≤ b * w) ⊎ (b * w + w ≤ a * w)
apart a b w ne =
    elim (cases_order a b) [
      | inl e ↦ absurd (ne e)
      | inr o ↦ elim o [ inl h ↦ inl (below a b w h) | inr h ↦ inr (below b a w h) ]
    ]

-- a write to a slot that no note has leaves their records
pub beside : (s w f : ℕ) (ns : List SlotNote) (t : ℕ) (o r : List ℕ) → Placed s w f ns → ((j : ℕ) → j < length ns → slot_after s f j ≡ t → ⊥) → length r ≤ w → t * w ≤ length o
    → map (noted (written o (t * w) r)) ns ≡ map (noted o) ns
beside s w f [] t o r p ne l h = refl
beside s w f (n ∷ ns) t o r p ne l h =
    let gap = apart f t w (λ e. ne 0 (omega arith) e) in
    let ends : (n.place + n.length ≤ t * w) ⊎ (t * w + length r ≤ n.place) =
    elim gap [ inl x ↦ inl (omega (arith, p.0, p.1)) | inr x ↦ inr (omega (arith, p.0, p.1)) ] in
    let one = other_cut o r (t * w) n.place n.length ends h in
    let more = beside s w (onward s f) ns t o r p.2 (λ j lt e. ne (suc j) (omega arith) e) l h in
    ap (λ q. q ∷ map (noted (written o (t * w) r)) ns) one ∙ ap (λ q. noted o n ∷ q) more

pub placed_push : (s w f : ℕ) (ns : List SlotNote) (n : SlotNote) → Placed s w f ns → n.place ≡ slot_after s f (length ns) * w → n.length ≤ w → Placed s w f (ns ++ (n ∷ []))
placed_push s w f [] n p e l = (e, l, tt)
placed_push s w f (m ∷ ns) n p e l = (p.0, p.1, placed_push s w (onward s f) ns n p.2 e l)

-- the slot after the last
pub slot_after_more : (s f k : ℕ) → slot_after s f (suc k) ≡ onward s (slot_after s f k)
slot_after_more s f zero = refl
slot_after_more s f (suc k) = slot_after_more s (onward s f) k

pub placed_from : (s w f : ℕ) (ns : List SlotNote) → in_turn s w f ns ≡ true → Placed s w f ns
placed_from s w f [] e = tt
placed_from s w f (n ∷ ns) e =
    let p = and_parts (eqb n.place (f * w)) (leb n.length w && in_turn s w (onward s f) ns) e in
    let q = and_parts (leb n.length w) (in_turn s w (onward s f) ns) p.1 in
    (eqb-true n.place (f * w) p.0, leb-true n.length w q.0, placed_from s w (onward s f) ns q.1)

pub placed_to : (s w f : ℕ) (ns : List SlotNote) → Placed s w f ns → in_turn s w f ns ≡ true
placed_to s w f [] p = refl
placed_to s w f (n ∷ ns) p =
    let a = eq-eqb n.place (f * w) p.0 in
    let b = le-leb n.length w p.1 in
    let c = placed_to s w (onward s f) ns p.2 in
    rw (a, b) c
