-- A part of the oldest record, as far as a buffer goes. Assumes nothing.
use Rattle.std.proofs.Common.{◌≡◌, ℕ, ◌-◌, ◌<◌, ◌≤◌, min, List, [], ◌∷◌, ◌++◌, length, take, drop, ap, ◌∙◌, arith, length-drop}
use Rattle.std.proofs.lemmas.List.{take_all, drop_all, take_min, drop_min}
use Rattle.std.proofs.lemmas.Bool.{le-leb, lt-leb}
use Rattle.queue.specs.Answers.{gives, refuses, read_answer, read_buffer}

pub read_part : (r out : List ℕ) (rs : List (List ℕ)) (place : ℕ) → place ≤ length r
    → (take (min (length r - place) (length out)) (drop place r) ++ drop (min (length r - place) (length out)) out ≡ read_buffer (r ∷ rs) place out)
    × (gives (min (length r - place) (length out)) ≡ read_answer (r ∷ rs) place (length out))
read_part r out rs place h =
    let d = drop place r in
    let m : min (length r - place) (length out) ≡ min (length out) (length d) = let l = length-drop place r in omega arith in
    let front = ap (λ q. take q d) m ∙ take_min (length out) d in
    let ok = le-leb place (length r) h in
    (rw (front, drop_min (length r - place) out), rw ok)

pub read_past : (r out : List ℕ) (rs : List (List ℕ)) (place : ℕ) → length r < place
    → (refuses 31 ≡ read_answer (r ∷ rs) place (length out)) × (out ≡ read_buffer (r ∷ rs) place out)
read_past r out rs place h =
    let no = lt-leb place (length r) h in
    let d = drop_all place r (omega arith) in
    let z : length r - place ≡ 0 = omega arith in
    let t : take {A = ℕ} (length out) [] ≡ [] = take_all {A = ℕ} (length out) [] (omega arith) in
    (rw no, rw (d, z, t))
