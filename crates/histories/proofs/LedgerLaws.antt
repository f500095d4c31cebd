-- What a ledger keeps by itself: order of acceptance, and what the run that lasts has taken.
use Rattle.std.proofs.Common.{◌≡◌, ℕ, suc, true, false, ◌⊎◌, List, [], ◌∷◌, ◌++◌, map, length, take, drop, Some, None, filter, sym, refl, ap, ◌∙◌, subst, inl, inr, append_assoc, append-nil, arith}
use Rattle.std.specs.List.{AllByRecursion}
use Rattle.std.proofs.lemmas.Bool.{cond-true, cond-false, false≢true}
use Rattle.std.proofs.lemmas.List.Elements.{filter-append}
use Rattle.std.proofs.ByRecursion.{All-append, All-push, All-weaker}
use Rattle.codec.specs.Records.{Record}
use Rattle.histories.specs.Sessions.{Phase, unbound, active, is_active, Selection, late, selected}
use Rattle.histories.specs.Ledger.{Acceptance, Entry, Ledger, blank, accept, entry, take_oldest, pass_oldest, end_run, older, hand_over, begin_run, lose_association, set_phase, set_pending, set_passed, set_untaken, set_pdus, acceptances, own_acceptances}
use Rattle.histories.specs.Statements.{RisesFrom, due, Complete}
use Rattle.histories.proofs.Entries.{Line, line_cut, line_push, Genuine, rises_front, all_front, all_back, acceptances_append, own_append, acceptances_older, own_older, Upto, own_none, own_one, is_selected, InTime, LateFirst, late_first_push, due_late, due_append}

-- what has entered the transfer buffer and was not discarded
abbrev pub entries : Ledger → List Entry
entries l = l.handed ++ l.pending

-- what the run that lasts has taken of what it was offered: nothing late, and what was selected of it has entered
pub record Taking (l : Ledger) : Type 0 where
  pub taken : List Acceptance
  pub offered : l.run.offered ≡ taken ++ l.untaken
  pub in_time : AllByRecursion (InTime l.run.selection) taken
  pub entered : filter (is_selected l.run.selection) taken ≡ own_acceptances l.run.number (entries l)

pub record Lawful (l : Ledger) : Type 0 where
  pub line : Line l.received (acceptances (entries l) ++ l.untaken)
  pub runs : AllByRecursion (Upto l.run.number) (entries l)
  pub at_end : l.end_mark ≡ true → LateFirst l.run.selection l.untaken
  pub taking : l.phase ≡ active → Taking l

pub off : (p : Phase) → is_active p ≡ false → p ≡ active → ⊥
off p h e = false≢true (sym h ∙ ap is_active e)

pub lawful_blank : Lawful blank
lawful_blank = record { line = (omega arith, tt); runs = tt; at_end = λ e. absurd (false≢true e); taking = λ e. absurd (off unbound refl e) }

pub lawful_accept : (r : Record) (l : Ledger) → Lawful l → Lawful (accept r l)
lawful_accept r l k =
    let a : Acceptance = record { number = length l.received; value = r } in
    record {
      line = subst (λ (x : List Acceptance). Line (l.received ++ r ∷ []) x) (append_assoc (acceptances (entries l)) l.untaken (a ∷ []))
          (line_push l.received r (acceptances (entries l) ++ l.untaken) k.line);
      runs = k.runs;
      at_end = λ e. late_first_push l.run.selection l.untaken a (k.at_end e);
      taking = λ e. let t = k.taking e in record {
        taken = t.taken;
        offered = ap (λ (x : List Acceptance). x ++ a ∷ []) t.offered ∙ append_assoc t.taken l.untaken (a ∷ []);
        in_time = t.in_time;
        entered = t.entered;
      };
    }

-- the oldest untaken record, made pending or passed over
abbrev pub took_oldest : Acceptance → List Acceptance → Ledger → Ledger
took_oldest a more l = set_untaken more (set_pending (l.pending ++ entry l (Some a) ∷ []) l)

abbrev pub passed_oldest : Acceptance → List Acceptance → Ledger → Ledger
passed_oldest a more l = set_untaken more (set_passed (l.passed ++ a ∷ []) l)

pub takes_oldest : (l : Ledger) (a : Acceptance) (more : List Acceptance) → l.untaken ≡ a ∷ more → take_oldest l ≡ took_oldest a more l
takes_oldest l a more u = ap (λ (x : List Acceptance). set_untaken (drop 1 x) (set_pending (l.pending ++ map (λ (a : Acceptance). entry l (Some a)) (take 1 x)) l)) u

pub passes_oldest : (l : Ledger) (a : Acceptance) (more : List Acceptance) → l.untaken ≡ a ∷ more → pass_oldest l ≡ passed_oldest a more l
passes_oldest l a more u = ap (λ (x : List Acceptance). set_untaken (drop 1 x) (set_passed (l.passed ++ take 1 x) l)) u

module _ (l : Ledger) (a : Acceptance) (more : List Acceptance) (u : l.untaken ≡ a ∷ more) (k : Lawful l) where
  was_line : Line l.received (acceptances (entries l) ++ a ∷ more)
  was_line = subst (λ (x : List Acceptance). Line l.received (acceptances (entries l) ++ x)) u k.line

  was_offered : (t : Taking l) → l.run.offered ≡ (t.taken ++ a ∷ []) ++ more
  was_offered t = t.offered ∙ ap (λ (x : List Acceptance). t.taken ++ x) u ∙ sym (append_assoc t.taken (a ∷ []) more)

  pub lawful_take : l.end_mark ≡ false → late l.run.selection a.value ≡ false → selected l.run.selection a.value ≡ true → Lawful (took_oldest a more l)
  lawful_take unmarked early want =
      let f : Entry = entry l (Some a) in
      let g : l.handed ++ (l.pending ++ f ∷ []) ≡ entries l ++ f ∷ [] = sym (append_assoc l.handed l.pending (f ∷ [])) in
      record {
        line = subst (λ (x : List Acceptance). Line l.received x)
            (sym (ap (λ (x : List Entry). acceptances x ++ more) g ∙ ap (λ (x : List Acceptance). x ++ more) (acceptances_append (entries l) (f ∷ [])) ∙ append_assoc (acceptances (entries l)) (a ∷ []) more))
            was_line;
        runs = subst (λ (x : List Entry). AllByRecursion (Upto l.run.number) x) (sym g) (All-push (Upto l.run.number) (entries l) f k.runs (omega arith));
        at_end = λ e. absurd (false≢true (sym unmarked ∙ e));
        taking = λ e. let t = k.taking e in record {
          taken = t.taken ++ a ∷ [];
          offered = was_offered t;
          in_time = All-push (InTime l.run.selection) t.taken a t.in_time early;
          entered = filter-append (is_selected l.run.selection) t.taken (a ∷ [])
              ∙ ap (λ (x : List Acceptance). filter (is_selected l.run.selection) t.taken ++ x) (cond-true (selected l.run.selection a.value) _ _ want)
              ∙ ap (λ (x : List Acceptance). x ++ a ∷ []) t.entered
              ∙ sym (ap (λ (x : List Entry). own_acceptances l.run.number x) g ∙ own_append l.run.number (entries l) (f ∷ [])
              ∙ ap (λ (x : List Acceptance). own_acceptances l.run.number (entries l) ++ x) (own_one l.run.number (Some a) 0));
        };
      }

  pub lawful_pass : l.end_mark ≡ false → late l.run.selection a.value ≡ false → selected l.run.selection a.value ≡ false → Lawful (passed_oldest a more l)
  lawful_pass unmarked early want = record {
    line = line_cut l.received (acceptances (entries l)) (a ∷ []) more was_line;
    runs = k.runs;
    at_end = λ e. absurd (false≢true (sym unmarked ∙ e));
    taking = λ e. let t = k.taking e in record {
      taken = t.taken ++ a ∷ [];
      offered = was_offered t;
      in_time = All-push (InTime l.run.selection) t.taken a t.in_time early;
      entered = filter-append (is_selected l.run.selection) t.taken (a ∷ [])
          ∙ ap (λ (x : List Acceptance). filter (is_selected l.run.selection) t.taken ++ x) (cond-false (selected l.run.selection a.value) _ _ want)
          ∙ append-nil (filter (is_selected l.run.selection) t.taken)
          ∙ t.entered;
    };
  }

  pub lawful_end : late l.run.selection a.value ≡ true → Lawful (end_run l)
  lawful_end is-late =
      let f : Entry = entry l None in
      let g : l.handed ++ (l.pending ++ f ∷ []) ≡ entries l ++ f ∷ [] = sym (append_assoc l.handed l.pending (f ∷ [])) in
      record {
        line = subst (λ (x : List Acceptance). Line l.received (x ++ l.untaken))
            (sym (ap (λ (x : List Entry). acceptances x) g ∙ acceptances_append (entries l) (f ∷ []) ∙ append-nil (acceptances (entries l))))
            k.line;
        runs = subst (λ (x : List Entry). AllByRecursion (Upto l.run.number) x) (sym g) (All-push (Upto l.run.number) (entries l) f k.runs (omega arith));
        at_end = λ e. subst (λ (x : List Acceptance). LateFirst l.run.selection x) (sym u) is-late;
        taking = λ e. let t = k.taking e in record {
          taken = t.taken;
          offered = t.offered;
          in_time = t.in_time;
          entered = t.entered
              ∙ sym (ap (λ (x : List Entry). own_acceptances l.run.number x) g ∙ own_append l.run.number (entries l) (f ∷ [])
              ∙ ap (λ (x : List Acceptance). own_acceptances l.run.number (entries l) ++ x) (own_one l.run.number None 0)
              ∙ append-nil (own_acceptances l.run.number (entries l)));
        };
      }

runs_older : (n : ℕ) (xs : List Entry) → AllByRecursion (Upto n) xs → AllByRecursion (Upto n) (map older xs)
runs_older n [] a = tt
runs_older n (x ∷ xs) a = (a.0, runs_older n xs a.1)

pub lawful_older : (l : Ledger) → Lawful l → Lawful (set_pending (map older l.pending) l)
lawful_older l k =
    let n : ℕ = l.run.number in
    let same-acceptances : acceptances (l.handed ++ map older l.pending) ≡ acceptances (entries l) =
    acceptances_append l.handed (map older l.pending) ∙ ap (λ (x : List Acceptance). acceptances l.handed ++ x) (acceptances_older l.pending) ∙ sym (acceptances_append l.handed l.pending) in
    let same-own : own_acceptances n (l.handed ++ map older l.pending) ≡ own_acceptances n (entries l) =
    own_append n l.handed (map older l.pending) ∙ ap (λ (x : List Acceptance). own_acceptances n l.handed ++ x) (own_older n l.pending) ∙ sym (own_append n l.handed l.pending) in
    record {
      line = subst (λ (x : List Acceptance). Line l.received (x ++ l.untaken)) (sym same-acceptances) k.line;
      runs = All-append (Upto n) l.handed (map older l.pending) (all_front (Upto n) l.handed l.pending k.runs) (runs_older n l.pending (all_back (Upto n) l.handed l.pending k.runs));
      at_end = k.at_end;
      taking = λ e. let t = k.taking e in record { taken = t.taken; offered = t.offered; in_time = t.in_time; entered = t.entered ∙ sym same-own };
    }

pub lawful_hand : (l : Ledger) → Lawful l → Lawful (hand_over l)
lawful_hand l k =
    let g : entries l ≡ entries l ++ [] = sym (append-nil (entries l)) in
    record {
      line = subst (λ (x : List Entry). Line l.received (acceptances x ++ l.untaken)) g k.line;
      runs = subst (λ (x : List Entry). AllByRecursion (Upto l.run.number) x) g k.runs;
      at_end = k.at_end;
      taking = λ e. let t = k.taking e in record { taken = t.taken; offered = t.offered; in_time = t.in_time; entered = t.entered ∙ ap (λ (x : List Entry). own_acceptances l.run.number x) g };
    }

pub lawful_pdu : (pdu : List ℕ) (l : Ledger) → Lawful l → Lawful (set_pdus (l.pdus ++ pdu ∷ []) l)
lawful_pdu pdu l k = record {
  line = k.line;
  runs = k.runs;
  at_end = k.at_end;
  taking = λ e. let t = k.taking e in record { taken = t.taken; offered = t.offered; in_time = t.in_time; entered = t.entered };
}

pub lawful_phase : (p : Phase) (l : Ledger) → is_active p ≡ false → Lawful l → Lawful (set_phase p l)
lawful_phase p l h k = record { line = k.line; runs = k.runs; at_end = k.at_end; taking = λ e. absurd (off p h e) }

pub lawful_begin : (c : Selection) (l : Ledger) → Lawful l → Lawful (set_phase active (begin_run c l))
lawful_begin c l k = record {
  line = k.line;
  runs = All-weaker (Upto l.run.number) (Upto (suc l.run.number)) (λ x h. omega arith) (entries l) k.runs;
  at_end = λ e. absurd (false≢true e);
  taking = λ e. record { taken = []; offered = refl; in_time = tt; entered = sym (own_none l.run.number (entries l) k.runs) };
}

handed_line : (l : Ledger) → Lawful l → Line l.received (acceptances l.handed ++ (acceptances l.pending ++ l.untaken))
handed_line l k =
    subst (λ (x : List Acceptance). Line l.received x)
    (ap (λ (x : List Acceptance). x ++ l.untaken) (acceptances_append l.handed l.pending) ∙ append_assoc (acceptances l.handed) (acceptances l.pending) l.untaken)
    k.line

pub lawful_lose : (l : Ledger) → Lawful l → Lawful (lose_association l)
lawful_lose l k =
    let g : l.handed ≡ l.handed ++ [] = sym (append-nil l.handed) in
    record {
      line = subst (λ (x : List Entry). Line l.received (acceptances x ++ l.untaken)) g
          (line_cut l.received (acceptances l.handed) (acceptances l.pending) l.untaken (handed_line l k));
      runs = subst (λ (x : List Entry). AllByRecursion (Upto l.run.number) x) g (all_front (Upto l.run.number) l.handed l.pending k.runs);
      at_end = k.at_end;
      taking = λ e. absurd (off unbound refl e);
    }

-- What follows.

pub in_order : (l : Ledger) → Lawful l → RisesFrom 0 (acceptances l.handed)
in_order l k = rises_front 0 (length l.received) (acceptances l.handed) (acceptances l.pending ++ l.untaken) (handed_line l k).0

pub genuine : (l : Ledger) → Lawful l → AllByRecursion (Genuine l.received) (acceptances l.handed)
genuine l k = all_front (Genuine l.received) (acceptances l.handed) (acceptances l.pending ++ l.untaken) (handed_line l k).1

nothing_due : (l : Ledger) → Lawful l → (l.end_mark ≡ true) ⊎ (l.untaken ≡ []) → due l.run.selection l.untaken ≡ []
nothing_due l k (inl m) = due_late l.run.selection l.untaken (k.at_end m)
nothing_due l k (inr e) = ap (λ (x : List Acceptance). due l.run.selection x) e

pub complete : (l : Ledger) → Lawful l → Complete l
complete l k f =
    let t = k.taking f.lasts in
    let c : Selection = l.run.selection in
    let n : ℕ = l.run.number in
    sym (ap (λ (x : List Acceptance). due c x) t.offered
    ∙ due_append c t.taken l.untaken t.in_time
    ∙ ap (λ (x : List Acceptance). filter (is_selected c) t.taken ++ x) (nothing_due l k f.at_end)
    ∙ append-nil (filter (is_selected c) t.taken)
    ∙ t.entered
    ∙ ap (λ (x : List Entry). own_acceptances n (l.handed ++ x)) f.nothing_pending
    ∙ ap (λ (x : List Entry). own_acceptances n x) (append-nil l.handed))
