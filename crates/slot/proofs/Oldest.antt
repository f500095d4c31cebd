-- The oldest record, told by the oldest note. Assumes nothing.
use Rattle.std.proofs.Common.{Fits, w64, ◌≡◌, ℕ, ◌+◌, ◌-◌, ◌*◌, ◌<◌, ◌≤◌, min, true, List, [], ◌∷◌, ◌++◌, map, length, take, drop, sym, ap, ◌∙◌, arith, length-drop, length-take}
use Rattle.std.proofs.lemmas.List.{take-take, drop-take, drop-drop, length-take-le}
use Rattle.queue.specs.Answers.{gives, first_answer, read_answer, read_buffer}
use Rattle.queue.proofs.Reading.{read_part, read_past}
use Rattle.ring.specs.Parts.{part_read}
use Rattle.ring.specs.Memories.{contents}
use Rattle.ring.specs.Rings.{elements}
use Rattle.ring.proofs.Granted.{read_within}
use Rattle.slot.specs.declared.note.SlotNote.{SlotNote}
use Rattle.slot.specs.declared.slotted.Slotted.{Slotted}
use Rattle.slot.specs.Slots.{noted, oldest_note}
use Rattle.slot.specs.Placing.{in_turn}
use Rattle.slot.specs.Holding.{held_in}
use Rattle.slot.proofs.Placing.{below, placed_from}

head_is : (ns : List SlotNote) (n : SlotNote) → gives n ≡ oldest_note ns → (ms : List SlotNote) × (ns ≡ n ∷ ms)
head_is [] n e = absurd (let z : ◌≡◌ {A = ℕ} 0 1 = cc in omega arith)
head_is (m ∷ ms) n e = let same : m ≡ n = cc in (ms, ap (λ q. q ∷ ms) same)

-- What is known of the oldest record from its note.
abbrev pub Told : Slotted → SlotNote → Type 0
Told q n = (rs : List (List ℕ)) × (held_in q ≡ noted (contents q.octets) n ∷ rs) × (length (noted (contents q.octets) n) ≡ n.length) × (n.place + n.length ≤ length (contents q.octets))

first_of : (s w f : ℕ) (ns ms : List SlotNote) (n : SlotNote) (o : List ℕ) → ns ≡ n ∷ ms → in_turn s w f ns ≡ true → s * w ≤ length o → f < s → n.place + n.length ≤ length o
first_of s w f ns ms n o e p fits fs =
    let q = placed_from s w f (n ∷ ms) (ap (in_turn s w f) (sym e) ∙ p) in
    let b = below f s w fs in
    omega (arith, q.0, q.1)

pub told : (q : Slotted) (n : SlotNote) → gives n ≡ oldest_note (elements q.notes) → Told q n
told q n e =
    let o = contents q.octets in
    let h = head_is (elements q.notes) n e in
    let some = ap length h.1 in
    let l = first_of q.slots q.width q.first (elements q.notes) h.0 n o h.1 q.placed q.within (q.begins (omega (arith, q.few))) in
    (map (noted o) h.0, ap (map (noted o)) h.1, simp (length-take, length-drop) (omega arith), l)

-- The part of a record that its note leads to.
part_of : (o out : List ℕ) (n : SlotNote) (rs : List (List ℕ)) (place : ℕ) → length (noted o n) ≡ n.length → n.place + n.length ≤ length o → place ≤ n.length
    → let m = min (n.length - place) (length out) in
    (part_read o (n.place + place) (take m out) ++ drop m out ≡ read_buffer (noted o n ∷ rs) place out) × (gives m ≡ read_answer (noted o n ∷ rs) place (length out))
part_of o out n rs place len within le =
    let l = n.length - place in
    let m = min l (length out) in
    let at = n.place + place in
    let e : n.length ≡ place + l = omega arith in
    let d : drop place (noted o n) ≡ take l (drop at o) =
    ap (λ q. drop place (take q (drop n.place o))) e ∙ drop-take place l (drop n.place o) ∙ ap (take l) (drop-drop place n.place o) in
    let lm : length (take m out) ≡ m = length-take-le m out (omega arith) in
    let copied : part_read o at (take m out) ≡ take m (drop at o) = read_within o at (take m out) (omega arith) ∙ ap (λ q. take q (drop at o)) lm in
    let front : take m (drop at o) ≡ take m (drop place (noted o n)) = sym (ap (take m) d ∙ take-take m l (drop at o) (omega arith)) in
    let m-is : m ≡ min (length (noted o n) - place) (length out) = omega arith in
    let part = read_part (noted o n) out rs place (omega arith) in
    (ap (λ q. q ++ drop m out) (copied ∙ front) ∙ ap (λ q. take q (drop place (noted o n)) ++ drop q out) m-is ∙ part.0, ap gives m-is ∙ part.1)

pub oldest_length : (q : Slotted) (n : SlotNote) → gives n ≡ oldest_note (elements q.notes) → gives n.length ≡ first_answer (held_in q)
oldest_length q n e = let t = told q n e in ap gives (sym t.2) ∙ ap first_answer (sym t.1)

pub read_within_octets : (q : Slotted) (n : SlotNote) (place : ℕ) → gives n ≡ oldest_note (elements q.notes) → place ≤ n.length → Fits w64 (n.place + place)
read_within_octets q n place e le = let t = told q n e in omega (arith, t.3, q.octets.bounded)

pub read_out : (q : Slotted) (n : SlotNote) (place : ℕ) (out : List ℕ) → gives n ≡ oldest_note (elements q.notes) → place ≤ n.length
    → let m = min (n.length - place) (length out) in
    part_read (contents q.octets) (n.place + place) (take m out) ++ drop m out ≡ read_buffer (held_in q) place out
read_out q n place out e le =
    let t = told q n e in
    (part_of (contents q.octets) out n t.0 place t.2 t.3 le).0 ∙ ap (λ x. read_buffer x place out) (sym t.1)

pub read_number : (q : Slotted) (n : SlotNote) (place : ℕ) (out : List ℕ) → gives n ≡ oldest_note (elements q.notes) → place ≤ n.length
    → gives (min (n.length - place) (length out)) ≡ read_answer (held_in q) place (length out)
read_number q n place out e le =
    let t = told q n e in
    (part_of (contents q.octets) out n t.0 place t.2 t.3 le).1 ∙ ap (λ x. read_answer x place (length out)) (sym t.1)

pub read_beyond : (q : Slotted) (n : SlotNote) (place : ℕ) (out : List ℕ) → gives n ≡ oldest_note (elements q.notes) → n.length < place → out ≡ read_buffer (held_in q) place out
read_beyond q n place out e lt =
    let t = told q n e in
    (read_past (noted (contents q.octets) n) out t.0 place (omega (arith, t.2))).1 ∙ ap (λ x. read_buffer x place out) (sym t.1)
