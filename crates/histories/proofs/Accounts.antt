-- In every history the account of its answers agrees with its ledger and its state.
use Rattle.std.proofs.Common.{◌≡◌, ℕ, zero, suc, ◌+◌, List, [], ◌∷◌, ◌++◌, length, Some, None, sym, refl, ap, ◌∙◌, subst, subst₂, arith, length-append}
use Rattle.std.proofs.lemmas.List.{length_push}
use Rattle.std.proofs.lemmas.Bool.{cond_both}
use Rattle.codec.specs.Records.{end_of_data}
use Rattle.histories.specs.Queues.{Queue}
use Rattle.histories.specs.Sessions.{active, ready, unbound, is_active, to_phase, aged, holding, selecting, marked, entered}
use Rattle.histories.specs.Calls.{Call, Answer, refused, idle, waiting, quiet, ended, start_done, stop_done, bind_done, unbind_done, abort_done, undecodable, protocol_error, Outcome}
use Rattle.histories.specs.Invocations.{lost, after_unbind, selection_of}
use Rattle.histories.specs.Provider.{State, taking, passing, outcome}
use Rattle.histories.specs.Ledger.{Event, Acceptance, Entry, Ledger, accept, take_oldest, pass_oldest, end_run, count_tick, hand_over, entry, lose_association, acceptances, ledger}
use Rattle.histories.specs.Histories.{History, opens, goes_on}
use Rattle.histories.specs.Accounts.{Account, one_accepted, one_moved, one_passed, one_sent, lose, counted, account_of_events, AccountsAgree}
use Rattle.histories.proofs.Entries.{acceptances_append, acceptances_older}
use Rattle.histories.proofs.LedgerLaws.{took_oldest, passed_oldest, takes_oldest, passes_oldest}
use Rattle.histories.proofs.Invariant.{Inv, Leads, led, keeping}
use Rattle.histories.proofs.Outcomes.{Receives, Moves, Ticks, Collects, Invokes, Does, Change, does}
use Rattle.histories.proofs.Outcomes as outcomes
use Rattle.histories.proofs.Steps.{looked}
use Rattle.histories.proofs.Discards.{lost_are}
use Rattle.histories.proofs.Soundness.{history_inv, booked, opened_empty}

-- what an account says of a ledger and of the PDUs that wait, in plain numbers
abbrev Told : Account → Ledger → List (List ℕ) → Type 0
Told a l held =
    (a.accepted_records ≡ length l.received)
    × (a.handed_over ≡ length (acceptances l.handed))
    × (a.pending_records ≡ length (acceptances l.pending))
    × (a.untaken_records ≡ length l.untaken)
    × (a.passed_records ≡ length l.passed)
    × (a.discarded_records ≡ length (acceptances l.discarded))
    × (a.accepted_records ≡ a.handed_over + (a.pending_records + (a.untaken_records + (a.passed_records + a.discarded_records))))
    × (a.collected_pdus ≡ length l.pdus)
    × (a.sent_pdus ≡ a.collected_pdus + length held)

joined_length : (xs ys : List Entry) → length (acceptances (xs ++ ys)) ≡ length (acceptances xs) + length (acceptances ys)
joined_length xs ys = ap (λ (x : List Acceptance). length x) (acceptances_append xs ys) ∙ length-append (acceptances xs) (acceptances ys)

older_length : (l : Ledger) → length (acceptances (count_tick l).pending) ≡ length (acceptances l.pending)
older_length l =
    cond_both (is_active l.phase) _ _ (λ (x : List Entry). length (acceptances x) ≡ length (acceptances l.pending))
    (λ _. ap (λ (x : List Acceptance). length x) (acceptances_older l.pending)) (λ _. refl)

-- all pending is handed over, and one PDU more waits
handed_over_lem : (a : Account) (l : Ledger) (held held' : List (List ℕ)) → length held' ≡ length held + 1 → Told a l held → Told (one_sent a) (hand_over l) held'
handed_over_lem a l held held' more t =
    let n = joined_length l.handed l.pending in
    (t.0, omega arith, refl, t.3, t.4, t.5, omega arith, t.7, omega arith)

older_told : (a : Account) (l : Ledger) (held : List (List ℕ)) → Told a l held → Told a (count_tick l) held
older_told a l held t = (t.0, t.1, t.2 ∙ sym (older_length l), t.3, t.4, t.5, t.6, t.7, t.8)

-- all pending is discarded
lost_told : (n : ℕ) (a : Account) (l : Ledger) (held : List (List ℕ)) → n ≡ length (acceptances l.pending) → Told a l held → Told (lose n a) (lose_association l) held
lost_told zero a l held e t =
    let n = joined_length l.discarded l.pending in
    (t.0, t.1, t.2 ∙ sym e, t.3, t.4, omega arith, t.6, t.7, t.8)
lost_told (suc k) a l held e t =
    let n = joined_length l.discarded l.pending in
    (t.0, t.1, refl, t.3, t.4, omega arith, omega arith, t.7, t.8)

module _ (a : Account) (l : Ledger) (s : State) (i : Inv l s) (t : Told a l s.transport.held) where
  abbrev AfterIt : Account → Ledger → State → Type 0
  AfterIt b k s' = Told b k s'.transport.held

  -- a transport that is kept
  kept : (b : Account) (k : Ledger) (transport : Queue) → transport ≡ s.transport → Told b k s.transport.held → Told b k transport.held
  kept b k transport e u = subst (λ (q : Queue). Told b k q.held) (sym e) u

  by_reception : {c : Call} {o : Outcome} {f : Change} → Receives s c o f → Leads (AfterIt (counted o.answer a) (f l)) s o
  by_reception (outcomes.turns_away n) = keeping (AfterIt a l) s s.session (refused n) t
  by_reception (outcomes.accepts r e w ok) = λ frames transport f g.
      let n = length_push l.received r in
      let m = length_push l.untaken (record { number = length l.received; value = r }) in
      kept (one_accepted a) (accept r l) transport g (omega arith, t.1, t.2, omega arith, t.4, t.5, omega arith, t.7, t.8)

  by_collection : {o : Outcome} {f : Change} → Collects s o f → Leads (AfterIt (counted o.answer a) (f l)) s o
  by_collection (outcomes.leaves n) = keeping (AfterIt a l) s s.session (refused n) t
  by_collection (outcomes.collects pdu more e) = λ frames transport f g.
      let n = length_push l.pdus pdu in
      let m = ap (λ (x : List (List ℕ)). length x) g.held in
      (t.0, t.1, t.2, t.3, t.4, t.5, t.6, omega arith, omega arith)

  took : (x : Acceptance) (more : List Acceptance) → l.untaken ≡ x ∷ more → Told (one_moved a) (took_oldest x more l) s.transport.held
  took x more u =
      let n = joined_length l.pending (entry l (Some x) ∷ []) in
      let m = ap (λ (y : List Acceptance). length y) u in
      (t.0, t.1, omega arith, omega arith, t.4, t.5, omega arith, t.7, t.8)

  passed : (x : Acceptance) (more : List Acceptance) → l.untaken ≡ x ∷ more → Told (one_passed a) (passed_oldest x more l) s.transport.held
  passed x more u =
      let n = length_push l.passed x in
      let m = ap (λ (y : List Acceptance). length y) u in
      (t.0, t.1, t.2, omega arith, omega arith, t.5, omega arith, t.7, t.8)

  by_move : {o : Outcome} {f : Change} → Moves s o f → Leads (AfterIt (counted o.answer a) (f l)) s o
  by_move (outcomes.when_not_active h) = keeping (AfterIt a l) s s.session idle t
  by_move (outcomes.at_end h) = keeping (AfterIt a l) s s.session idle t
  by_move (outcomes.no_record h) = keeping (AfterIt a l) s s.session idle t
  by_move (Moves.sends h) = λ frames transport f g. handed_over_lem a l s.transport.held transport.held (ap (λ (x : List (List ℕ)). length x) g.held ∙ length_push s.transport.held _) t
  by_move (Moves.waits h k) = keeping (AfterIt a l) s s.session waiting t
  by_move (outcomes.ends r k h) =
      let n = joined_length l.pending (entry l None ∷ []) in
      keeping (AfterIt a (end_run l)) s (marked (entered end_of_data s.session)) ended (t.0, t.1, omega arith, t.3, t.4, t.5, t.6, t.7, t.8)
  by_move (outcomes.takes r k h w) =
      looked l s i (λ x. Leads (AfterIt (one_moved a) (take_oldest l)) s (taking s.session x))
      (λ x more u k' frames transport f g. kept (one_moved a) (take_oldest l) transport g
      (subst (λ (y : Ledger). Told (one_moved a) y s.transport.held) (sym (takes_oldest l x more u)) (took x more u)))
      r k l.untaken refl
  by_move (outcomes.passes r k h w) =
      looked l s i (λ x. Leads (AfterIt (one_passed a) (pass_oldest l)) s (passing s.session))
      (λ x more u k' frames transport f g. kept (one_passed a) (pass_oldest l) transport g
      (subst (λ (y : Ledger). Told (one_passed a) y s.transport.held) (sym (passes_oldest l x more u)) (passed x more u)))
      r k l.untaken refl

  older_now : Told a (count_tick l) s.transport.held
  older_now = older_told a l s.transport.held t

  by_tick : {o : Outcome} {f : Change} → Ticks s o f → Leads (AfterIt (counted o.answer a) (f l)) s o
  by_tick (outcomes.rests h) = keeping (AfterIt a (count_tick l)) s s.session quiet older_now
  by_tick (outcomes.grows_older g h) = keeping (AfterIt a (count_tick l)) s (aged (suc s.session.age) s.session) quiet older_now
  by_tick (Ticks.sends g) = λ frames transport f added. handed_over_lem a (count_tick l) s.transport.held transport.held (ap (λ (x : List (List ℕ)). length x) added.held ∙ length_push s.transport.held _) older_now
  by_tick (Ticks.waits g h) = keeping (AfterIt a (count_tick l)) s (aged s.settings.latency_limit s.session) waiting older_now

  loses : Told (lose (lost s.session) a) (lose_association l) s.transport.held
  loses = lost_told (lost s.session) a l s.transport.held (lost_are l s i) t

  by_invocation : {octets : List ℕ} {o : Outcome} {f : Change} → Invokes s octets o f → Leads (AfterIt (counted o.answer a) (f l)) s o
  by_invocation (outcomes.refused_by n) = keeping (AfterIt a l) s s.session (refused n) t
  by_invocation (outcomes.starts id q from until r e) = keeping (AfterIt a l) s (to_phase active (selecting (selection_of q from until) s.session)) (start_done id) t
  by_invocation (outcomes.stops id r e) = keeping (AfterIt a l) s (to_phase ready s.session) (stop_done id) t
  by_invocation (outcomes.binds id version identifier r e) = keeping (AfterIt a l) s (to_phase ready s.session) (bind_done id s.settings.version) t
  by_invocation (outcomes.unbinds id reason r e) = keeping (AfterIt a l) s (to_phase (after_unbind reason) s.session) (unbind_done id) t
  by_invocation (outcomes.aborts diagnostic r b) = keeping (AfterIt (lose (lost s.session) a) (lose_association l)) s (to_phase unbound (holding [] s.session)) (abort_done (lost s.session)) loses
  by_invocation (outcomes.errs request r e) = keeping (AfterIt (lose (lost s.session) a) (lose_association l)) s (to_phase unbound (holding [] s.session)) (protocol_error (lost s.session)) loses
  by_invocation (outcomes.misreads fault r b) = keeping (AfterIt (lose (lost s.session) a) (lose_association l)) s (to_phase unbound (holding [] s.session)) (undecodable fault (lost s.session)) loses
  by_invocation (outcomes.misreads_unbound fault e) = keeping (AfterIt a l) s s.session (undecodable fault 0) t

  counts : {c : Call} {o : Outcome} {f : Change} → Does s c o f → Leads (AfterIt (counted o.answer a) (f l)) s o
  counts (outcomes.receiving w r) = by_reception r
  counts (outcomes.moving m) = by_move m
  counts (outcomes.ticking k) = by_tick k
  counts (outcomes.collecting_by n c) = by_collection c
  counts (outcomes.invoking octets v) = by_invocation v

told : {es : List Event} {s : State} → History es s → Told (account_of_events es) (ledger es) s.transport.held
told (opens g frames transport lf lt e) =
    let none = opened_empty g frames transport e in
    (refl, refl, refl, refl, refl, refl, refl, refl, omega (arith, ap (λ (x : List (List ℕ)). length x) none))
told (goes_on {es = es} {s = s} {s' = s'} e h st) =
    let l : Ledger = ledger es in
    let a : Account = account_of_events es in
    subst₂ (λ (x : Answer) (y : Ledger). Told (counted x a) y s'.transport.held) (sym st.answer) (sym (booked l s s' e (history_inv h) st))
    (led (λ (x : State). Told (counted (outcome s e.call).answer a) ((does s e.call).0 l) x.transport.held) s s' e st
    (counts a l s (history_inv h) (told h) (does s e.call).1))

pub accounts_agree : AccountsAgree
accounts_agree es s h =
    let t = told h in
    record { received = t.0; handed = t.1; pending = t.2; untaken = t.3; passed = t.4; discarded = t.5; all_told = t.6; pdus = t.7; waiting = t.8 }
