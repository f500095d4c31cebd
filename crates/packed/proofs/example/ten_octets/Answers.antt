use Rattle.std.proofs.Common.{◌≡◌, ℕ, List, [], ◌∷◌, length, ap, ◌∙◌, arith}
use Rattle.queue.specs.Answers.{Answer, answer_of, gives, refuses, add_answer, add_list, drop_answer, rest}
use Rattle.packed.specs.Packing.{packed_largest, packed_room}
use Rattle.packed.specs.Holding.{held_in, octets_in}
use Rattle.packed.specs.Laws.{ten_octets_answers}
use Rattle.packed.proofs.example.ten_octets.Goals as goal

-- What add answers and leaves in a queue of o octets that holds h.
abbrev adds : ℕ → List (List ℕ) → List ℕ → Answer (Unit {0})
adds o h r = add_answer (packed_largest o) (packed_room o h) (length r)

abbrev leaves : ℕ → List (List ℕ) → List ℕ → List (List ℕ)
leaves o h r = add_list (packed_largest o) (packed_room o h) h r

ten : (o o' : ℕ) → o ≡ 10 → packed_largest o' ≡ packed_largest o → o' ≡ 10
ten o o' p q = omega arith

adds_ten : (o : ℕ) (h : List (List ℕ)) (r : List ℕ) (hs : List (List ℕ)) → o ≡ 10 → h ≡ hs → adds o h r ≡ adds 10 hs r
adds_ten o h r hs p q = ap (λ x. adds x h r) p ∙ ap (λ x. adds 10 x r) q

leaves_ten : (o : ℕ) (h : List (List ℕ)) (r : List ℕ) (hs : List (List ℕ)) → o ≡ 10 → h ≡ hs → leaves o h r ≡ leaves 10 hs r
leaves_ten o h r hs p q = ap (λ x. leaves x h r) p ∙ ap (λ x. leaves 10 x r) q

-- The run, over plain numbers, lists and answers: octets and held list before each call, and each answer.
run : (o₀ o₁ o₂ o₃ o₄ : ℕ) (h₀ h₁ h₂ h₃ h₄ : List (List ℕ)) (a₁ a₂ a₃ a₄ a₅ : Answer (Unit {0}))
    → o₀ ≡ 10 → h₀ ≡ []
    → a₁ ≡ adds o₀ h₀ (1 ∷ (2 ∷ (3 ∷ []))) → h₁ ≡ leaves o₀ h₀ (1 ∷ (2 ∷ (3 ∷ []))) → packed_largest o₁ ≡ packed_largest o₀
    → a₂ ≡ adds o₁ h₁ (4 ∷ (5 ∷ (6 ∷ []))) → h₂ ≡ leaves o₁ h₁ (4 ∷ (5 ∷ (6 ∷ []))) → packed_largest o₂ ≡ packed_largest o₁
    → a₃ ≡ adds o₂ h₂ (7 ∷ []) → h₃ ≡ leaves o₂ h₂ (7 ∷ []) → packed_largest o₃ ≡ packed_largest o₂
    → a₄ ≡ drop_answer h₃ → h₄ ≡ rest h₃ → packed_largest o₄ ≡ packed_largest o₃
    → a₅ ≡ adds o₄ h₄ (7 ∷ [])
    → a₁ ∷ (a₂ ∷ (a₃ ∷ (a₄ ∷ (a₅ ∷ [])))) ≡ ten_octets_answers
run o₀ o₁ o₂ o₃ o₄ h₀ h₁ h₂ h₃ h₄ a₁ a₂ a₃ a₄ a₅ o h e₁ l₁ m₁ e₂ l₂ m₂ e₃ l₃ m₃ e₄ l₄ m₄ e₅ =
    let t₁ = ten o₀ o₁ o m₁ in
    let t₂ = ten o₁ o₂ t₁ m₂ in
    let t₃ = ten o₂ o₃ t₂ m₃ in
    let t₄ = ten o₃ o₄ t₃ m₄ in
    let a = 1 ∷ (2 ∷ (3 ∷ [])) in
    let b = 4 ∷ (5 ∷ (6 ∷ [])) in
    let k₁ : h₁ ≡ a ∷ [] = l₁ ∙ leaves_ten o₀ h₀ a [] o h in
    let k₂ : h₂ ≡ a ∷ (b ∷ []) = l₂ ∙ leaves_ten o₁ h₁ b (a ∷ []) t₁ k₁ in
    let k₃ : h₃ ≡ a ∷ (b ∷ []) = l₃ ∙ leaves_ten o₂ h₂ (7 ∷ []) (a ∷ (b ∷ [])) t₂ k₂ in
    let k₄ : h₄ ≡ b ∷ [] = l₄ ∙ ap rest k₃ in
    let r₁ : a₁ ≡ gives tt = e₁ ∙ adds_ten o₀ h₀ a [] o h in
    let r₂ : a₂ ≡ gives tt = e₂ ∙ adds_ten o₁ h₁ b (a ∷ []) t₁ k₁ in
    let r₃ : a₃ ≡ refuses 33 = e₃ ∙ adds_ten o₂ h₂ (7 ∷ []) (a ∷ (b ∷ [])) t₂ k₂ in
    let r₄ : a₄ ≡ gives tt = e₄ ∙ ap drop_answer k₃ in
    let r₅ : a₅ ≡ gives tt = e₅ ∙ adds_ten o₄ h₄ (7 ∷ []) (b ∷ []) t₄ k₄ in
    rw (r₁, r₂, r₃, r₄, r₅)

pub returns : goal.returns
returns c =
    let q₀ = c.new-queue.result in
    let q₁ = c.add-first.new.self in
    let q₂ = c.add-second.new.self in
    let q₃ = c.add-third.new.self in
    let q₄ = c.drop-dropped.new.self in
    run (octets_in q₀) (octets_in q₁) (octets_in q₂) (octets_in q₃) (octets_in q₄) (held_in q₀) (held_in q₁) (held_in q₂) (held_in q₃) (held_in q₄)
    (answer_of c.add-first.result) (answer_of c.add-second.result) (answer_of c.add-third.result) (answer_of c.drop-dropped.result) (answer_of c.add-fourth.result)
    c.new-queue.ensures.same c.new-queue.ensures.list
    c.add-first.ensures.answer c.add-first.ensures.left.list c.add-first.ensures.left.most
    c.add-second.ensures.answer c.add-second.ensures.left.list c.add-second.ensures.left.most
    c.add-third.ensures.answer c.add-third.ensures.left.list c.add-third.ensures.left.most
    c.drop-dropped.ensures.answer c.drop-dropped.ensures.left.list c.drop-dropped.ensures.left.most
    c.add-fourth.ensures.answer
