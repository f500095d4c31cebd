-- Readers whose faults lie where they should, and which a cut of the input makes too short and nothing else.
use Rattle.std.proofs.Common.{◌≡◌, ℕ, ◌+◌, ◌<◌, ◌≤◌, Bool, true, false, cond, leb, ◌⊎◌, List, length, take, Ok, Err, Result, sym, refl, ap, ◌∙◌, subst, inl, inr, ⊎_elim, arith}
use Rattle.std.proofs.lemmas.Bool.{le-leb, leb-true, lt-leb, cases_lt}
use Rattle.std.proofs.lemmas.List.{length-take-le}
use Rattle.codec.specs.Fields.{fault, present, and_then}
use Rattle.codec.specs.declared.fault.Fault.{Fault}
use Rattle.codec.specs.declared.fault.FaultKind.{FaultKind}
use Rattle.codec.specs.declared.fault.FaultKind.TheVariants.{Short, Mark, Value, Extra}
use Rattle.codec.proofs.Results.{same_ok, and_then_ok, cond_ok}

-- where a fault may lie in an input of some length whose mark stands at a place
abbrev pub Allowed : ℕ → ℕ → FaultKind → ℕ → Type 0
Allowed mark len Short place = place ≡ len
Allowed mark len Mark place = (place ≡ mark) × (mark < len)
Allowed mark len Value place = (mark < place) × (place < len)
Allowed mark len Extra place = ⊥

-- a reader of what stands from m on, and the place behind what it has read
pub record Steady {X : Type 0} (mark m : ℕ) (read : List ℕ → Result X Fault) (end : X → ℕ) : Type 0 where
  pub sound : (xs : List ℕ) → m ≤ length xs → (f : Fault) → read xs ≡ Err f → Allowed mark (length xs) f.kind f.place
  pub far : (xs : List ℕ) → m ≤ length xs → (x : X) → read xs ≡ Ok x → (m ≤ end x) × (end x ≤ length xs)
  pub kept : (xs : List ℕ) (p : ℕ) → m ≤ p → p ≤ length xs → (x : X) → read xs ≡ Ok x → end x ≤ p → read (take p xs) ≡ Ok x
  pub cut : (xs : List ℕ) (p : ℕ) → m ≤ p → p ≤ length xs → (read (take p xs) ≡ read xs) ⊎ (read (take p xs) ≡ Err (fault Short p))

pub ok_or_err : {X : Type 0} (r : Result X Fault) → ((x : X) × (r ≡ Ok x)) ⊎ ((e : Fault) × (r ≡ Err e))
ok_or_err (Ok x) = inl (x, refl)
ok_or_err (Err e) = inr (e, refl)

pub same_err : {X : Type 0} {d e : Fault} → ◌≡◌ {A = Result X Fault} (Err d) (Err e) → d ≡ e
same_err h = cc

module _ (mark : ℕ) where
  -- one reader behind another
  module _ {X Y : Type 0} {m : ℕ} {read : List ℕ → Result X Fault} {end : X → ℕ} {next : X → List ℕ → Result Y Fault} {last : Y → ℕ}
      (first : Steady mark m read end) (second : (x : X) → Steady mark (end x) (next x) last) where
    abbrev both : List ℕ → Result Y Fault
    both xs = and_then (read xs) (λ x. next x xs)

    both_sound : (xs : List ℕ) → m ≤ length xs → (f : Fault) → both xs ≡ Err f → Allowed mark (length xs) f.kind f.place
    both_sound xs h f e =
        ⊎_elim (λ a. (second a.0).sound xs (first.far xs h a.0 a.1).1 f (sym (ap (λ r. and_then r (λ x. next x xs)) a.1) ∙ e))
        (λ a. first.sound xs h f (a.1 ∙ ap Err (same_err (sym (ap (λ r. and_then r (λ x. next x xs)) a.1) ∙ e))))
        (ok_or_err (read xs))

    both_far : (xs : List ℕ) → m ≤ length xs → (y : Y) → both xs ≡ Ok y → (m ≤ last y) × (last y ≤ length xs)
    both_far xs h y e =
        let a = and_then_ok (read xs) (λ x. next x xs) e in
        let b = first.far xs h a.0 a.1 in
        let c = (second a.0).far xs b.1 y a.2 in
        (omega arith, c.1)

    both_kept : (xs : List ℕ) (p : ℕ) → m ≤ p → p ≤ length xs → (y : Y) → both xs ≡ Ok y → last y ≤ p → both (take p xs) ≡ Ok y
    both_kept xs p h k y e l =
        let a = and_then_ok (read xs) (λ x. next x xs) e in
        let b = first.far xs (omega arith) a.0 a.1 in
        let c = (second a.0).far xs b.1 y a.2 in
        ap (λ r. and_then r (λ x. next x (take p xs))) (first.kept xs p h k a.0 a.1 (omega arith))
        ∙ (second a.0).kept xs p (omega arith) k y a.2 l

    both_cut : (xs : List ℕ) (p : ℕ) → m ≤ p → p ≤ length xs → (both (take p xs) ≡ both xs) ⊎ (both (take p xs) ≡ Err (fault Short p))
    both_cut xs p h k =
        let long = length-take-le p xs k in
        let then-cut : (r : Result X Fault) → read (take p xs) ≡ r → both (take p xs) ≡ and_then r (λ x. next x (take p xs)) = λ z e. ap (λ r. and_then r (λ x. next x (take p xs))) e in
        ⊎_elim (λ same.
        ⊎_elim (λ a.
        let short = same ∙ a.1 in
        let reach = (first.far (take p xs) (omega arith) a.0 short).1 in
        let back = sym (ap (λ r. and_then r (λ x. next x xs)) a.1) in
        ⊎_elim (λ c. inl (then-cut _ short ∙ c ∙ back)) (λ c. inr (then-cut _ short ∙ c)) ((second a.0).cut xs p (omega arith) k))
        (λ a. inl (then-cut _ (same ∙ a.1) ∙ sym (ap (λ r. and_then r (λ x. next x xs)) a.1)))
        (ok_or_err (read xs)))
        (λ short. inr (then-cut _ short))
        (first.cut xs p h k)

    pub steady_then : Steady mark m (λ xs. and_then (read xs) (λ x. next x xs)) last
    steady_then = record { sound = both_sound; far = both_far; kept = both_kept; cut = both_cut }

  -- a choice that does not look at the input
  pub steady_cond : {X : Type 0} {m : ℕ} {one other : List ℕ → Result X Fault} {end : X → ℕ} (b : Bool)
      → Steady mark m one end → Steady mark m other end → Steady mark m (λ xs. cond b (one xs) (other xs)) end
  steady_cond true s t = s
  steady_cond false s t = t

  -- a fault of value at a field that was read, and of the mark
  pub steady_value : {X : Type 0} {m : ℕ} {end : X → ℕ} (at : ℕ) → mark < at → at < m → Steady mark m (λ xs. Err (fault Value at)) end
  steady_value {X} {m} at low high = record {
    sound = λ xs h f e. subst (λ z. Allowed mark (length xs) z.kind z.place) (same_err e) (low, omega arith);
    far = λ xs h x e. cc;
    kept = λ xs p h k x e l. cc;
    cut = λ xs p h k. inl refl;
  }

  pub steady_mark : {X : Type 0} {m : ℕ} {end : X → ℕ} → mark < m → Steady mark m (λ xs. Err (fault Mark mark)) end
  steady_mark {X} {m} high = record {
    sound = λ xs h f e. subst (λ z. Allowed mark (length xs) z.kind z.place) (same_err e) (refl, omega arith);
    far = λ xs h x e. cc;
    kept = λ xs p h k x e l. cc;
    cut = λ xs p h k. inl refl;
  }

  -- a value taken from the octets that were read
  pub steady_ok : {X : Type 0} {m : ℕ} {end : X → ℕ} (value : List ℕ → X) → ((xs : List ℕ) → m ≤ length xs → end (value xs) ≡ m)
      → ((xs : List ℕ) (p : ℕ) → m ≤ p → p ≤ length xs → value (take p xs) ≡ value xs) → Steady mark m (λ xs. Ok (value xs)) end
  steady_ok {X} {m} {end} value ends same = record {
    sound = λ xs h f e. cc;
    far = λ xs h x e. subst (λ z. (m ≤ end z) × (end z ≤ length xs)) (same_ok e) (omega (arith, ends xs h), omega (arith, ends xs h));
    kept = λ xs p h k x e l. ap Ok (same xs p h k) ∙ e;
    cut = λ xs p h k. inl (ap Ok (same xs p h k));
  }

  -- a field of n octets
  pub steady_present : {X : Type 0} {end : X → ℕ} (at n : ℕ) (value : List ℕ → X) → ((xs : List ℕ) → at + n ≤ length xs → end (value xs) ≡ at + n)
      → ((xs : List ℕ) (p : ℕ) → at + n ≤ p → p ≤ length xs → value (take p xs) ≡ value xs) → Steady mark at (λ xs. present xs at n (value xs)) end
  steady_present {X} {end} at n value ends same = record {
    sound = λ xs h f e.
        ⊎_elim (λ short. let t = lt-leb (at + n) (length xs) short in subst (λ z. Allowed mark (length xs) z.kind z.place) (same_err (sym (missing xs t) ∙ e)) refl)
        (λ whole. let there = found xs (le-leb (at + n) (length xs) whole) in cc)
        (cases_lt (length xs) (at + n));
    far = λ xs h x e.
        let a = cond_ok (leb (at + n) (length xs)) (Ok (value xs)) _ e in
        let whole = leb-true (at + n) (length xs) a.0 in
        subst (λ z. (at ≤ end z) × (end z ≤ length xs)) (same_ok a.1) (omega (arith, ends xs whole), omega (arith, ends xs whole));
    kept = λ xs p h k x e l.
        let a = cond_ok (leb (at + n) (length xs)) (Ok (value xs)) _ e in
        let whole = leb-true (at + n) (length xs) a.0 in
        let reach : at + n ≤ p = omega (arith, ends xs whole, ap end (same_ok a.1)) in
        found (take p xs) (le-leb (at + n) (length (take p xs)) (omega (arith, length-take-le p xs k))) ∙ ap Ok (same xs p reach k) ∙ a.1;
    cut = λ xs p h k.
        let long = length-take-le p xs k in
        ⊎_elim (λ short. inr (missing (take p xs) (lt-leb (at + n) (length (take p xs)) (omega arith)) ∙ ap (λ l. Err (fault Short l)) long))
        (λ whole. inl (found (take p xs) (le-leb (at + n) (length (take p xs)) (omega arith)) ∙ ap Ok (same xs p whole k) ∙ sym (found xs (le-leb (at + n) (length xs) (omega arith)))))
        (cases_lt p (at + n));
  }
    where
      found : (xs : List ℕ) → leb (at + n) (length xs) ≡ true → present xs at n (value xs) ≡ Ok (value xs)
      found xs t = rw t

      missing : (xs : List ℕ) → leb (at + n) (length xs) ≡ false → present xs at n (value xs) ≡ Err (fault Short (length xs))
      missing xs t = rw t

  pub steady_from : {X : Type 0} {m n : ℕ} {read : List ℕ → Result X Fault} {end : X → ℕ} → m ≡ n → Steady mark m read end → Steady mark n read end
  steady_from {X} {m} {n} {read} {end} e s = subst (λ k. Steady mark k read end) e s
