-- Whatever a call comes to, the ledger leaves every accepted record one fate.
use Rattle.std.proofs.Common.{◌≡◌, ℕ, zero, suc, ◌+◌, ◌≤◌, Bool, true, cond, eqb, ltb, List, [], ◌∷◌, ◌++◌, map, length, take, drop, Some, None, Option, sym, refl, ap, ◌∙◌, subst, append_assoc, append-nil, arith}
use Rattle.std.specs.List.{AllByRecursion}
use Rattle.std.proofs.lemmas.List.{length_push, length-append, take-append-drop}
use Rattle.std.proofs.lemmas.List.Elements.{filter-append}
use Rattle.std.proofs.ByRecursion.{All-append, all_kept_by, kept_by_passes}
use Rattle.std.proofs.lemmas.Bool.{cond-true, cond-false, cond_both, eqb-true, eqb-false, lt-ltb, le-ltb, ltb-true, ltb-false, ne_eqb}
use Rattle.codec.specs.Records.{Record}
use Rattle.histories.specs.Sessions.{is_active}
use Rattle.histories.specs.Calls.{Call, Outcome}
use Rattle.histories.specs.Provider.{State}
use Rattle.histories.specs.Ledger.{Acceptance, Entry, Ledger, blank, accept, entry, take_oldest, pass_oldest, end_run, older, count_tick, hand_over, lose_association, set_pending, acceptances, accepted_as}
use Rattle.histories.specs.Statements.{fates, bearing, acceptance, OneFate}
use Rattle.histories.proofs.Entries.{Genuine, genuine_push, all_front, all_back, acceptances_append, acceptances_older}
use Rattle.histories.proofs.Outcomes.{Receives, Moves, Ticks, Collects, Invokes, Does, Change}
use Rattle.histories.proofs.Outcomes as does

-- how many bear the number n
pub times : ℕ → List Acceptance → ℕ
times n xs = length (bearing n xs)

times_append : (n : ℕ) (xs ys : List Acceptance) → times n (xs ++ ys) ≡ times n xs + times n ys
unfolding times
times_append n xs ys = ap (λ (z : List Acceptance). length z) (filter-append (λ (a : Acceptance). eqb a.number n) xs ys) ∙ length-append (bearing n xs) (bearing n ys)

-- each number of acceptance is borne once, by the record accepted under it
abbrev pub Counted : List Record → List Acceptance → Type 0
Counted rs xs = ((n : ℕ) → times n xs ≡ cond (ltb n (length rs)) 1 0) × AllByRecursion (Genuine rs) xs

swap : (rs : List Record) (xs ys zs us : List Acceptance) → Counted rs (xs ++ (ys ++ (zs ++ us))) → Counted rs (xs ++ (zs ++ (ys ++ us)))
swap rs xs ys zs us c =
    let G : Acceptance → Type 0 = Genuine rs in
    let a = all_back G xs (ys ++ (zs ++ us)) c.1 in
    let b = all_back G ys (zs ++ us) a in (
      λ n.
          let p = times_append n xs (ys ++ (zs ++ us)) in
          let q = times_append n ys (zs ++ us) in
          let r = times_append n zs us in
          let p' = times_append n xs (zs ++ (ys ++ us)) in
          let q' = times_append n zs (ys ++ us) in
          let r' = times_append n ys us in
          let same : times n (xs ++ (zs ++ (ys ++ us))) ≡ times n (xs ++ (ys ++ (zs ++ us))) = omega arith in
          same ∙ c.0 n,
      All-append G xs (zs ++ (ys ++ us)) (all_front G xs (ys ++ (zs ++ us)) c.1)
          (All-append G zs (ys ++ us) (all_front G zs us b) (All-append G ys us (all_front G ys (zs ++ us) a) (all_back G zs us b))),
    )

-- one record more is accepted
one : (n m : ℕ) (r : Record) → times n (record { number = m; value = r } ∷ []) ≡ cond (eqb m n) 1 0
unfolding times
one n m r = cond_both (eqb m n) (record { number = m; value = r } ∷ []) [] (λ (x : List Acceptance). length x ≡ cond (eqb m n) 1 0)
    (λ e. sym (cond-true (eqb m n) 1 0 e)) (λ e. sym (cond-false (eqb m n) 1 0 e))

one_more : (n m : ℕ) → cond (ltb n m) 1 0 + cond (eqb m n) 1 0 ≡ cond (ltb n (m + 1)) 1 0
one_more n m =
    cond_both (ltb n m) 1 0 (λ (x : ℕ). x + cond (eqb m n) 1 0 ≡ cond (ltb n (m + 1)) 1 0)
    (λ a. let l = ltb-true n m a in ap (λ (x : ℕ). 1 + x) (cond-false (eqb m n) 1 0 (ne_eqb m n (λ e. omega arith))) ∙ sym (cond-true (ltb n (m + 1)) 1 0 (lt-ltb n (m + 1) (omega arith))))
    (λ a. let l = ltb-false n m a in cond_both (eqb m n) 1 0 (λ (x : ℕ). 0 + x ≡ cond (ltb n (m + 1)) 1 0)
    (λ b. let e = eqb-true m n b in sym (cond-true (ltb n (m + 1)) 1 0 (lt-ltb n (m + 1) (omega arith))))
    (λ b. let e = eqb-false m n b in sym (cond-false (ltb n (m + 1)) 1 0 (le-ltb n (m + 1) (omega arith)))))

push : (rs : List Record) (r : Record) (xs : List Acceptance) → Counted rs xs → Counted (rs ++ r ∷ []) (xs ++ record { number = length rs; value = r } ∷ [])
push rs r xs c = (
  λ n. times_append n xs (record { number = length rs; value = r } ∷ [])
      ∙ (λ k. c.0 n k + one n (length rs) r k)
      ∙ one_more n (length rs)
      ∙ ap (λ (x : ℕ). cond (ltb n x) 1 0) (sym (length_push rs r)),
  genuine_push rs r xs c.1,
)

abbrev pub Accounted : Ledger → Type 0
Accounted l = Counted l.received (fates l)

pub accounted_blank : Accounted blank
unfolding times
accounted_blank = (λ n. sym (cond-false (ltb n 0) 1 0 (le-ltb n 0 (omega arith))), tt)

acceptances_entered : (l : Ledger) (xs : List Acceptance) → acceptances (map (λ (a : Acceptance). entry l (Some a)) xs) ≡ xs
acceptances_entered l [] = refl
acceptances_entered l (x ∷ xs) = ap (λ (y : List Acceptance). x ∷ y) (acceptances_entered l xs)

module _ (l : Ledger) (c : Accounted l) where
  abbrev P : List Acceptance
  P = l.passed

  abbrev D : List Acceptance
  D = acceptances l.discarded

  abbrev H : List Acceptance
  H = acceptances l.handed

  abbrev E : List Acceptance
  E = acceptances l.pending

  -- lists that are equal, and so counted alike
  alike : (xs : List Acceptance) → fates l ≡ xs → Counted l.received xs
  alike xs e = subst (λ (x : List Acceptance). Counted l.received x) e c

  accepts : (r : Record) → Accounted (accept r l)
  accepts r = subst (λ (x : List Acceptance). Counted (l.received ++ r ∷ []) x) (simp append_assoc) (push l.received r (fates l) c)

  takes : Accounted (take_oldest l)
  takes =
      alike (fates (take_oldest l))
      (ap (λ (x : List Acceptance). P ++ (D ++ (H ++ (E ++ x)))) (sym (take-append-drop 1 l.untaken)) ∙ simp (acceptances_append, acceptances_entered l, append_assoc))

  passes : Accounted (pass_oldest l)
  passes =
      subst (λ (x : List Acceptance). Counted l.received x) (simp append_assoc)
      (swap l.received P (D ++ (H ++ E)) (take 1 l.untaken) (drop 1 l.untaken)
      (alike (P ++ ((D ++ (H ++ E)) ++ (take 1 l.untaken ++ drop 1 l.untaken)))
      (ap (λ (x : List Acceptance). P ++ (D ++ (H ++ (E ++ x)))) (sym (take-append-drop 1 l.untaken)) ∙ simp append_assoc)))

  ends : Accounted (end_run l)
  ends = alike (fates (end_run l)) (simp (acceptances_append, append-nil))

  hands : Accounted (hand_over l)
  hands = alike (fates (hand_over l)) (simp (acceptances_append, append_assoc))

  loses : Accounted (lose_association l)
  loses =
      subst (λ (x : List Acceptance). Counted l.received x) (simp (acceptances_append, append_assoc))
      (swap l.received (P ++ D) H E l.untaken (alike ((P ++ D) ++ (H ++ (E ++ l.untaken))) (simp append_assoc)))

  ticks : Accounted (count_tick l)
  ticks =
      cond_both (is_active l.phase) (map older l.pending) l.pending (λ (x : List Entry). Accounted (set_pending x l))
      (λ _. alike (fates (set_pending (map older l.pending) l)) (ap (λ (x : List Acceptance). P ++ (D ++ (H ++ (x ++ l.untaken)))) (sym (acceptances_older l.pending))))
      (λ _. c)

module _ (l : Ledger) (c : Accounted l) (s : State) where
  by_reception : {k : Call} {o : Outcome} {f : Change} → Receives s k o f → Accounted (f l)
  by_reception (does.turns_away n) = c
  by_reception (does.accepts r e w a) = accepts l c r

  by_collection : {o : Outcome} {f : Change} → Collects s o f → Accounted (f l)
  by_collection (does.leaves n) = c
  by_collection (does.collects pdu more e) = c

  by_move : {o : Outcome} {f : Change} → Moves s o f → Accounted (f l)
  by_move (does.when_not_active h) = c
  by_move (does.at_end h) = c
  by_move (does.no_record h) = c
  by_move (Moves.sends h) = hands l c
  by_move (Moves.waits h k) = c
  by_move (does.ends r k h) = ends l c
  by_move (does.takes r k h w) = takes l c
  by_move (does.passes r k h w) = passes l c

  by_tick : {o : Outcome} {f : Change} → Ticks s o f → Accounted (f l)
  by_tick (does.rests h) = ticks l c
  by_tick (does.grows_older a h) = ticks l c
  by_tick (Ticks.sends a) = hands (count_tick l) (ticks l c)
  by_tick (Ticks.waits a h) = ticks l c

  by_invocation : {octets : List ℕ} {o : Outcome} {f : Change} → Invokes s octets o f → Accounted (f l)
  by_invocation (does.refused_by n) = c
  by_invocation (does.starts id q from until r e) = c
  by_invocation (does.stops id r e) = c
  by_invocation (does.binds id version identifier r e) = c
  by_invocation (does.unbinds id reason r e) = c
  by_invocation (does.aborts diagnostic r b) = loses l c
  by_invocation (does.errs request r e) = loses l c
  by_invocation (does.misreads fault r b) = loses l c
  by_invocation (does.misreads_unbound fault e) = c

  pub accounted : {k : Call} {o : Outcome} {f : Change} → Does s k o f → Accounted (f l)
  accounted (does.receiving w r) = by_reception r
  accounted (does.moving m) = by_move m
  accounted (does.ticking t) = by_tick t
  accounted (does.collecting_by n k) = by_collection k
  accounted (does.invoking octets i) = by_invocation i

-- from the count to the record itself
past : (rs : List Record) (n : ℕ) → length rs ≤ n → accepted_as rs n ≡ None
past [] n h = refl
past (r ∷ rs) zero h = absurd (omega arith)
past (r ∷ rs) (suc n) h = past rs n (omega arith)

alone : (rs : List Record) (n : ℕ) (xs : List Acceptance) → length xs ≡ cond (ltb n (length rs)) 1 0 → AllByRecursion (λ (a : Acceptance). eqb a.number n ≡ true) xs → AllByRecursion (Genuine rs) xs
    → xs ≡ acceptance n (accepted_as rs n)
alone rs n [] c a g =
    let far : length rs ≤ n = cond_both (ltb n (length rs)) 1 0 (λ (x : ℕ). 0 ≡ x → length rs ≤ n) (λ _ z. absurd (omega arith)) (λ e _. ltb-false n (length rs) e) c in
    sym (ap (λ (x : Option Record). acceptance n x) (past rs n far))
alone rs n (x ∷ []) c a g =
    let same : x.number ≡ n = eqb-true x.number n a.0 in
    ap (λ (m : ℕ). record { number = m; value = x.value } ∷ []) same ∙ sym (ap (λ (y : Option Record). acceptance n y) (subst (λ (m : ℕ). Genuine rs (record { number = m; value = x.value })) same g.0))
alone rs n (x ∷ (y ∷ xs)) c a g =
    absurd (cond_both (ltb n (length rs)) 1 0 (λ (z : ℕ). length (x ∷ (y ∷ xs)) ≡ z → ⊥) (λ _ z. omega arith) (λ _ z. omega arith) c)

pub one_fate : (l : Ledger) → Accounted l → OneFate l
unfolding times
one_fate l c n =
    let p : Acceptance → Bool = λ (a : Acceptance). eqb a.number n in
    alone l.received n (bearing n (fates l)) (c.0 n) (kept_by_passes p (fates l)) (all_kept_by p (Genuine l.received) (fates l) c.1)
