-- Octets written by hexadecimal digits, octet by octet.
use Rattle.std.proofs.Common.{◌≡◌, ℕ, suc, ◌+◌, ◌-◌, ◌*◌, ◌/◌, ◌%◌, ◌<◌, ◌≤◌, List, [], ◌∷◌, ◌++◌, length, get_or, drop, Some, None, Option, sym, refl, ap, ◌∙◌, inl, inr, append_assoc, append-nil, arith}
use Rattle.std.proofs.lemmas.Bool.{cases_lt, lt-ltb, le-ltb, le-leb, lt-leb}
use Rattle.script.specs.Hexadecimal.{digit_value, in_front, octets_of_digits, digit_of, digits_of_octets, hexadecimal_text, OctetsReadBack}

-- octets read so far, and then those of the rest
abbrev pub onto : List ℕ → Option (List ℕ) → Option (List ℕ)
onto xs (Some ys) = Some (xs ++ ys)
onto xs None = None

onto_front : (xs : List ℕ) (h l : ℕ) (r : Option (List ℕ)) → onto xs (in_front (Some h) (Some l) r) ≡ onto (xs ++ ((h * 16 + l) ∷ [])) r
onto_front xs h l (Some ys) = ap Some (sym (append_assoc xs ((h * 16 + l) ∷ []) ys))
onto_front xs h l None = refl

-- two digits more of a word, and the octet that they say
pub octet_on : (ds xs : List ℕ) (high low : ℕ) → 2 ≤ length ds → Some high ≡ digit_value (get_or ds 0 0) → Some low ≡ digit_value (get_or ds 1 0)
    → onto (xs ++ ((high * 16 + low) ∷ [])) (octets_of_digits (drop 2 ds)) ≡ onto xs (octets_of_digits ds)
octet_on [] xs high low h a b = absurd (omega arith)
octet_on (d ∷ []) xs high low h a b = absurd (omega arith)
octet_on (d ∷ (e ∷ ds)) xs high low h a b = rw (← a, ← b) (sym (onto_front xs high low (octets_of_digits ds)))

front_none : (a b : Option ℕ) → in_front a b None ≡ None
front_none (Some a) (Some b) = refl
front_none (Some a) None = refl
front_none None b = refl

odd_more : (n : ℕ) → suc (suc n) % 2 ≡ n % 2
odd_more n = omega arith

pub odd_none : (ds : List ℕ) → (length ds % 2 ≡ 0 → ⊥) → octets_of_digits ds ≡ None
odd_none [] ne = absurd (ne refl)
odd_none (a ∷ []) ne = refl
odd_none (a ∷ (b ∷ ds)) ne = ap (in_front (digit_value a) (digit_value b)) (odd_none ds (λ e. ne (odd_more (length ds) ∙ e))) ∙ front_none (digit_value a) (digit_value b)

digit_back : (n : ℕ) → n < 16 → digit_value (digit_of n) ≡ Some n
digit_back n h =
    elim (cases_lt n 10) [
      | inl s ↦ (let a = lt-ltb n 10 s in let b = le-leb 48 (n + 48) (omega arith) in let c = le-leb (n + 48) 57 (omega arith) in
          let v : n + 48 - 48 ≡ n = omega arith in rw (a, b, c) (ap Some v))
      | inr s ↦ (let a = le-ltb n 10 s in let b = le-leb 48 (n + 87) (omega arith) in let c = lt-leb (n + 87) 57 (omega arith) in
          let d = le-leb 97 (n + 87) (omega arith) in let e = le-leb (n + 87) 102 (omega arith) in
          let v : n + 87 - 87 ≡ n = omega arith in rw (a, b, c, d, e) (ap Some v))
    ]

pub octets_back : OctetsReadBack
octets_back [] a = refl
octets_back (o ∷ os) a =
    let high = digit_back (o / 16) (omega (arith, a.0)) in
    let low = digit_back (o % 16) (omega arith) in
    let rest = octets_back os a.1 in
    let sum : o / 16 * 16 + o % 16 ≡ o = omega arith in
    rw (high, low, rest) (ap (λ q. Some (q ∷ os)) sum)

-- the digits of the octets in front, and then those of the rest
pub one_on : (os text : List ℕ) → 1 ≤ length os → text ≡ digits_of_octets (get_or os 0 0 ∷ []) → text ++ digits_of_octets (drop 1 os) ≡ digits_of_octets os
one_on [] text h e = absurd (omega arith)
one_on (a ∷ os) text h e = ap (λ q. q ++ digits_of_octets os) e

pub eight_on : (os text : List ℕ) → 8 ≤ length os → text ≡ digits_of_octets (get_or os 0 0 ∷ (get_or os 1 0 ∷ (get_or os 2 0 ∷ (get_or os 3 0 ∷ (get_or os 4 0 ∷ (get_or os 5 0 ∷ (get_or os 6 0 ∷ (get_or os 7 0 ∷ []))))))))
    → text ++ digits_of_octets (drop 8 os) ≡ digits_of_octets os
eight_on [] text p q = absurd (omega arith)
eight_on (a ∷ []) text p q = absurd (omega arith)
eight_on (a ∷ (b ∷ [])) text p q = absurd (omega arith)
eight_on (a ∷ (b ∷ (c ∷ []))) text p q = absurd (omega arith)
eight_on (a ∷ (b ∷ (c ∷ (d ∷ [])))) text p q = absurd (omega arith)
eight_on (a ∷ (b ∷ (c ∷ (d ∷ (e ∷ []))))) text p q = absurd (omega arith)
eight_on (a ∷ (b ∷ (c ∷ (d ∷ (e ∷ (f ∷ [])))))) text p q = absurd (omega arith)
eight_on (a ∷ (b ∷ (c ∷ (d ∷ (e ∷ (f ∷ (g ∷ []))))))) text p q = absurd (omega arith)
eight_on (a ∷ (b ∷ (c ∷ (d ∷ (e ∷ (f ∷ (g ∷ (h ∷ os)))))))) text p q = ap (λ ds. ds ++ digits_of_octets os) q

-- what has been printed, a text more, and what is left
pub printed_on : (written text rest left all : List ℕ) → written ++ digits_of_octets rest ≡ all → text ++ digits_of_octets left ≡ digits_of_octets rest → (written ++ text) ++ digits_of_octets left ≡ all
printed_on written text rest left all e on = append_assoc written text (digits_of_octets left) ∙ ap (λ q. written ++ q) on ∙ e

pub text_is : (os : List ℕ) → 0 < length os → hexadecimal_text os ≡ digits_of_octets os
text_is [] h = absurd (omega arith)
text_is (o ∷ os) h = refl

-- what two loops have printed, of which the second left nothing
pub printed_all : (first second rest left all : List ℕ) → length left < 1 → 0 < length all → second ++ digits_of_octets left ≡ digits_of_octets rest → first ++ digits_of_octets rest ≡ digits_of_octets all
    → first ++ second ≡ hexadecimal_text all
printed_all first second rest [] all h some e on = ap (λ q. first ++ q) (sym (append-nil second) ∙ e) ∙ on ∙ sym (text_is all some)
printed_all first second rest (x ∷ left) all h some e on = absurd (omega arith)
