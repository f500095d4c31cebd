-- Packing and unpacking undo one another, and follow an add, a drop and a read. Assumes nothing.
use Rattle.std.proofs.Common.{◌≡◌, ℕ, suc, ◌+◌, ◌-◌, ◌*◌, ◌/◌, ◌%◌, ◌<◌, ◌≤◌, min, true, leb, List, [], ◌∷◌, ◌++◌, length, take, drop, sym, refl, ap, ◌∙◌, inl, inr, append_assoc, append-nil, arith, length-append, length-drop}
use Rattle.std.proofs.lemmas.List.{take_at, drop_at, length_push, length-take-le, drop-append-le, take-append-le}
use Rattle.std.proofs.lemmas.Bool.{and_parts, leb-true, cases_lt, lt-ltb, le-leb, lt-leb}
use Rattle.std.specs.Int.{w16, to_be_bytes}
use Rattle.queue.specs.Answers.{gives, fair, length_limit, first_answer, read_buffer, drop_answer, rest}
use Rattle.queue.proofs.Admission.{fair_bounds}
use Rattle.queue.proofs.Reading.{read_part, read_past}
use Rattle.ring.specs.Rings.{elements, added, dropped}
use Rattle.ring.specs.Parts.{part_read}
use Rattle.ring.proofs.Granted.{added_whole, dropped_whole, read_within}
use Rattle.packed.specs.declared.packed.Packed.{Packed}
use Rattle.packed.specs.Holding.{held_in, octets_in}
use Rattle.packed.specs.Packing.{packed, unpacked, packed_size, room_beside, packed_largest, packed_room, head_size}

split : (n : ℕ) → (n / 256) * 256 + n % 256 ≡ n
split n = omega arith

pub unpacked_packed : (rs : List (List ℕ)) → unpacked (length rs) (packed rs) ≡ rs
unpacked_packed [] = refl
unpacked_packed (r ∷ rs) =
    rw (split (length r), take_at r (packed rs) (length r) refl, drop_at r (packed rs) (length r) refl) (ap (λ q. r ∷ q) (unpacked_packed rs))

pub packed_push : (rs : List (List ℕ)) (r : List ℕ) → packed (rs ++ (r ∷ [])) ≡ packed rs ++ ((length r / 256) ∷ ((length r % 256) ∷ r))
packed_push [] r = ap (λ q. (length r / 256) ∷ ((length r % 256) ∷ q)) (append-nil r)
packed_push (s ∷ rs) r =
    ap (λ q. (length s / 256) ∷ ((length s % 256) ∷ q)) (ap (λ q. s ++ q) (packed_push rs r) ∙ sym (append_assoc s (packed rs) ((length r / 256) ∷ ((length r % 256) ∷ r))))

pub length_packed : (rs : List (List ℕ)) → length (packed rs) ≡ packed_size rs
length_packed [] = refl
length_packed (r ∷ rs) = let e = length_packed rs in let a = length-append r (packed rs) in omega arith

pub few : (rs : List (List ℕ)) → length rs ≤ packed_size rs
few [] = omega arith
few (r ∷ rs) = let e = few rs in omega arith

-- The octets e' are those of one record more.
abbrev pub Grown : Packed → List ℕ → List ℕ → Type 0
Grown p e' r = (unpacked (p.count + 1) e' ≡ held_in p ++ (r ∷ [])) × (packed (unpacked (p.count + 1) e') ≡ e') × (length (unpacked (p.count + 1) e') ≡ p.count + 1)

grown : (p : Packed) (e' r : List ℕ) → e' ≡ elements p.ring ++ ((length r / 256) ∷ ((length r % 256) ∷ r)) → Grown p e' r
grown p e' r more =
    let k = p.count in
    let rs = held_in p in
    let e-is : e' ≡ packed (rs ++ (r ∷ [])) = more ∙ ap (λ q. q ++ ((length r / 256) ∷ ((length r % 256) ∷ r))) (sym p.whole) ∙ sym (packed_push rs r) in
    let k-is : k + 1 ≡ length (rs ++ (r ∷ [])) = ap (λ n. n + 1) (sym p.counted) ∙ sym (length_push rs r) in
    let got : unpacked (k + 1) e' ≡ rs ++ (r ∷ []) = rw (k-is, e-is) (unpacked_packed (rs ++ (r ∷ []))) in
    (got, ap packed got ∙ sym e-is, ap length got ∙ sym k-is)

-- A length and then its record were added to the ring.
pub put_behind : (p : Packed) (e₁ e₂ r : List ℕ) (s₁ : ℕ) → e₁ ≡ added (elements p.ring) (octets_in p) ((length r / 256) ∷ ((length r % 256) ∷ [])) → s₁ ≡ octets_in p → e₂ ≡ added e₁ s₁ r
    → length (elements p.ring) + (length r + head_size) ≤ octets_in p → Grown p e₂ r
put_behind p e₁ e₂ r s₁ first same second room =
    let e = elements p.ring in
    let head = (length r / 256) ∷ ((length r % 256) ∷ []) in
    let front : e₁ ≡ e ++ head = first ∙ added_whole e (octets_in p) head (omega arith) in
    let l = ap length front ∙ length-append e head in
    grown p e₂ r (second ∙ added_whole e₁ s₁ r (omega arith) ∙ ap (λ q. q ++ r) front ∙ append_assoc e head r)

-- where the first length is known, there is a first record
pub opened : (rs : List (List ℕ)) (n : ℕ) → gives n ≡ first_answer rs → (r : List ℕ) × (ss : List (List ℕ)) × (rs ≡ r ∷ ss) × (length r ≡ n)
opened [] n e = let bad : ◌≡◌ {A = ℕ} 0 1 = cc in absurd (omega arith)
opened (r ∷ ss) n e = (r, ss, refl, (cc))

drop_two : (n a b : ℕ) (xs : List ℕ) → drop (n + 2) (a ∷ (b ∷ xs)) ≡ drop n xs
drop_two n a b xs = let e : n + 2 ≡ suc (suc n) = omega arith in rw e

-- The octets e' are those of the records without the oldest.
abbrev pub Shrunk : Packed → List ℕ → Type 0
Shrunk p e' = (unpacked (p.count - 1) e' ≡ rest (held_in p)) × (packed (unpacked (p.count - 1) e') ≡ e') × (length (unpacked (p.count - 1) e') ≡ p.count - 1) × (gives tt ≡ drop_answer (held_in p))

pub shrunk : (p : Packed) (n : ℕ) (e' : List ℕ) → gives n ≡ first_answer (held_in p) → e' ≡ dropped (elements p.ring) (n + 2) → Shrunk p e'
shrunk p n e' f less =
    let k = p.count in
    let e = elements p.ring in
    let o = opened (held_in p) n f in
    let r = o.0 in
    let ss = o.1 in
    let e-is : e ≡ packed (r ∷ ss) = sym p.whole ∙ ap packed o.2 in
    let long : n + 2 ≤ length e = let a = ap length e-is in let b = length-append r (packed ss) in omega (arith, o.3) in
    let e'-is : e' ≡ packed ss = less ∙ dropped_whole e (n + 2) long ∙ ap (drop (n + 2)) e-is ∙ drop_two n (length r / 256) (length r % 256) (r ++ packed ss) ∙ drop_at r (packed ss) n o.3 in
    let k-is : k - 1 ≡ length ss = let a = ap length o.2 in let b = p.counted in omega arith in
    let got : unpacked (k - 1) e' ≡ ss = rw (k-is, e'-is) (unpacked_packed ss) in
    (got ∙ ap rest (sym o.2), ap packed got ∙ sym e'-is, ap length got ∙ sym k-is, ap drop_answer (sym o.2))

-- A read of the oldest record: what is copied into the front of the buffer.
pub read_out : (p : Packed) (n place : ℕ) (out : List ℕ) → gives n ≡ first_answer (held_in p) → place ≤ n
    → let m = min (n - place) (length out) in
    part_read (elements p.ring) (place + 2) (take m out) ++ drop m out ≡ read_buffer (held_in p) place out
read_out p n place out f le =
    let o = opened (held_in p) n f in
    let r = o.0 in
    let ss = o.1 in
    let e = elements p.ring in
    let m = min (length r - place) (length out) in
    let e-is : e ≡ packed (r ∷ ss) = sym p.whole ∙ ap packed o.2 in
    let pl : place ≤ length r = omega (arith, o.3) in
    let ld = length-drop place r in
    let lm : length (take m out) ≡ m = length-take-le m out (omega arith) in
    let long : (place + 2) + length (take m out) ≤ length e = let a = ap length e-is in let b = length-append r (packed ss) in omega arith in
    let from : drop (place + 2) e ≡ drop place r ++ packed ss =
    ap (drop (place + 2)) e-is ∙ drop_two place (length r / 256) (length r % 256) (r ++ packed ss) ∙ drop-append-le place r (packed ss) pl in
    let front : part_read e (place + 2) (take m out) ≡ take m (drop place r) =
    read_within e (place + 2) (take m out) long ∙ ap (λ q. take q (drop (place + 2) e)) lm ∙ ap (take m) from ∙ take-append-le m (drop place r) (packed ss) (omega arith) in
    let part = read_part r out ss place pl in
    let m-is : min (n - place) (length out) ≡ m = omega (arith, o.3) in
    ap (λ q. part_read e (place + 2) (take q out) ++ drop q out) m-is ∙ ap (λ q. q ++ drop m out) front ∙ part.0 ∙ ap (λ q. read_buffer q place out) (sym o.2)

pub read_beyond : (p : Packed) (n place : ℕ) (out : List ℕ) → gives n ≡ first_answer (held_in p) → n < place → out ≡ read_buffer (held_in p) place out
read_beyond p n place out f lt =
    let o = opened (held_in p) n f in
    rw o.2 (read_past o.0 out o.1 place (omega (arith, o.3))).1

pub used_is : (p : Packed) → length (elements p.ring) ≡ packed_size (held_in p)
used_is p = ap length (sym p.whole) ∙ length_packed (held_in p)

pub room_fits : (octets used n : ℕ) → room_beside octets used n ≡ true → (used + (n + head_size) ≤ octets) × (n ≤ length_limit)
room_fits octets used n e =
    let p = and_parts (fair (packed_largest octets) n) (leb (used + (n + head_size)) octets) e in
    let q = fair_bounds (packed_largest octets) n p.0 in
    (leb-true (used + (n + head_size)) octets p.1, omega (arith, q.1))

-- a record goes into what is left beside the octets in use
pub room_left : (p : Packed) (n : ℕ) → 0 < n → n ≤ packed_largest (octets_in p) → length (elements p.ring) ≤ octets_in p
    → leb (n + head_size) (octets_in p - length (elements p.ring)) ≡ packed_room (octets_in p) (held_in p) n
room_left p n some fair fits =
    let o = octets_in p in
    let u = used_is p in
    let a = lt-ltb 0 n some in
    let b = le-leb n (packed_largest o) fair in
    elim (cases_lt o (packed_size (held_in p) + (n + head_size))) [
      | inl h ↦ (let c = lt-leb (packed_size (held_in p) + (n + head_size)) o h in let d = lt-leb (n + head_size) (o - length (elements p.ring)) (omega arith) in rw (a, b, c, d))
      | inr h ↦ (let c = le-leb (packed_size (held_in p) + (n + head_size)) o h in let d = le-leb (n + head_size) (o - length (elements p.ring)) (omega arith) in rw (a, b, c, d))
    ]

-- the two octets of a length
pub head_octets : (n : ℕ) → n ≤ length_limit → to_be_bytes w16 n ≡ (n / 256) ∷ ((n % 256) ∷ [])
head_octets n h = let e : n / 256 % 256 ≡ n / 256 = omega arith in rw e
