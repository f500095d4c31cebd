-- A queue of the code by its meaning: kept, lawful, with one record more or less.
use Rattle.std.proofs.Common.{◌≡◌, ℕ, ◌<◌, ◌≤◌, Bool, true, false, cond, List, [], ◌∷◌, length, Ok, Err, Result, sym, refl, ap, ◌∙◌, arith}
use Rattle.std.proofs.Math.Bool.{and-false}
use Rattle.std.proofs.lemmas.Bool.Decides.{nat_tests}
use Rattle.std.specs.Result.{is_ok}
use Rattle.queue.specs.declared.meaning.Meaning.{Ghosts}
use Rattle.queue.specs.Answers.{gives, refuses, number, answer_of, fair, add_answer, add_list, first_answer, rest}
use Rattle.queue.specs.Changes as changes
use Rattle.queue.specs.declared.refusal.Refusal.{Refusal}
use Rattle.queue.proofs.Admission.{admitted}
use Rattle.histories.specs.Queues.{Queue, Lawful, Added, Dropped, After, keep, add}
use Rattle.provider.specs.States.{queue_of}

-- what an addition answers tells whether there was room
pub was_room : (most : ℕ) (room : ℕ → Bool) (n : ℕ) → gives tt ≡ add_answer most room n → room n ≡ true
was_room most room n e = (admitted most n (room n) e).0

pub was_no_room : (most : ℕ) (room : ℕ → Bool) (n k : ℕ) → ((m : ℕ) → room m ≡ true → (0 < m) × (m ≤ most)) → refuses k ≡ add_answer most room n → room n ≡ false
was_no_room most room n k bounded e = grind (arith, nat_tests, bounded n)

-- what an addition comes to: where there was room, one record more, and else all as it was
abbrev pub AddedIf : Bool → Queue → List ℕ → Queue → Type 0
AddedIf b q x q' = (q.room (length x) ≡ b) × After q (cond b (add x) keep) q'

module _ {Q : Type 0} (g : Ghosts Q) where
  pub kept_queue : (q q' : Q) → changes.Kept g q q' → queue_of g q' ≡ queue_of g q
  kept_queue q q' k i = record { held = k.list i; largest = k.most i; room = λ n. k.space n i }

  no_room : (q : Q) (n : ℕ) (b : Bool) → g.room q n ≡ b → ((0 < n) × (n ≤ g.largest q) → ⊥) → g.room q n ≡ false
  no_room q n b e never = grind (arith, g.bounded q n)

  pub lawful_queue : (q : Q) → Lawful (queue_of g q)
  lawful_queue q = record {
    room_when_empty = λ e n p l. g.vacant q n e p l;
    none_for_nothing = no_room q 0 (g.room q 0) refl (λ p. omega (arith, p.0));
    none_beyond_largest = λ n h. no_room q n (g.room q n) refl (λ p. omega (arith, p.1));
  }

  pub added_queue : (q q' : Q) (x : List ℕ) → g.room q (length x) ≡ true → g.held q' ≡ add_list (g.largest q) (g.room q) (g.held q) x → g.largest q' ≡ g.largest q
      → Added (queue_of g q) x (queue_of g q')
  added_queue q q' x room list most =
      let b = g.bounded q (length x) room in
      let f = fair_of (g.largest q) (length x) b.0 b.1 in
      record { held = list ∙ rw (f, room); largest = most; lawful = lawful_queue q' }
    where
      fair_of : (most n : ℕ) → 0 < n → n ≤ most → fair most n ≡ true
      fair_of most n p l = grind (arith, nat_tests)

  -- a record that was refused for want of room leaves the queue as it was
  pub refused_queue : (q q' : Q) (x : List ℕ) → g.room q (length x) ≡ false → g.held q' ≡ add_list (g.largest q) (g.room q) (g.held q) x → g.largest q' ≡ g.largest q
      → ((n : ℕ) → g.room q' n ≡ g.room q n) → queue_of g q' ≡ queue_of g q
  refused_queue q q' x room list most space =
      kept_queue q q' (record { list = list ∙ rw (room, and-false); most = most; space = space })

  pub added_if : (r : Result (Unit {0}) Refusal) (q q' : Q) (x : List ℕ) → answer_of r ≡ add_answer (g.largest q) (g.room q) (length x)
      → changes.Changed r g q q' (add_list (g.largest q) (g.room q) (g.held q) x) → AddedIf (is_ok r) (queue_of g q) x (queue_of g q')
  added_if (Ok u) q q' x answer left =
      let room = was_room (g.largest q) (g.room q) (length x) answer in
      (room, added_queue q q' x room left.list left.most)
  added_if (Err e) q q' x answer left =
      let none = was_no_room (g.largest q) (g.room q) (length x) (number e) (g.bounded q) answer in
      (none, refused_queue q q' x none left.list left.most (left.space tt))

  pub dropped_queue : (q q' : Q) (n : ℕ) → gives n ≡ first_answer (g.held q) → g.held q' ≡ rest (g.held q) → g.largest q' ≡ g.largest q → Dropped (queue_of g q) (queue_of g q')
  dropped_queue q q' n first list most =
      let o = oldest_of (g.held q) n first in
      record { oldest = o.0; held = o.2 ∙ ap (λ h. o.0 ∷ h) (sym (list ∙ ap rest o.2)); largest = most; lawful = lawful_queue q' }
    where
      oldest_of : (h : List (List ℕ)) (n : ℕ) → gives n ≡ first_answer h → (r : List ℕ) × (rs : List (List ℕ)) × (h ≡ r ∷ rs)
      oldest_of [] n e = absurd (cc)
      oldest_of (r ∷ rs) n e = (r, rs, refl)
