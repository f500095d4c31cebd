-- What each call does to the discarded records, and tells of them.
use Rattle.std.proofs.Common.{◌≡◌, ℕ, List, ◌++◌, length, Err, filter, sym, refl, ap, ◌∙◌, subst, inl, inr}
use Rattle.codec.specs.declared.fault.Fault.{Fault}
use Rattle.codec.specs.Records.{Record}
use Rattle.codec.specs.InvocationReading.{request_in}
use Rattle.histories.specs.Sessions.{Phase}
use Rattle.histories.specs.Calls.{Call, move, tick, collect, invoke, undecodable, Outcome}
use Rattle.histories.specs.Invocations.{is_accepted, lost}
use Rattle.histories.specs.Provider.{State}
use Rattle.histories.specs.Ledger.{Ledger, step, acceptances}
use Rattle.histories.specs.Statements.{told, Discarding, by_abort, by_protocol_error, undecodable_ready, undecodable_active, DiscardsRightly}
use Rattle.histories.proofs.Entries.{count_acceptances}
use Rattle.histories.proofs.Invariant.{Inv}
use Rattle.histories.proofs.Outcomes.{Reception, Receives, Moves, Ticks, Collects, Invokes, Does, Change, Bound, when_ready, when_active, event, books}
use Rattle.histories.proofs.Outcomes as does

module _ (l : Ledger) (s : State) (i : Inv l s) where
  -- a discard answers how many accepted records go
  pub lost_are : lost s.session ≡ length (acceptances l.pending)
  lost_are = ap (λ (x : List Record). length (filter is_accepted x)) i.buffered.are ∙ count_acceptances l.pending i.buffered.well

  booked : {c : Call} {o : Outcome} {f : Change} → Does s c o f → step l (event c o) ≡ f l
  booked d = books s l (sym i.phase) d

  abbrev Right : Call → Outcome → Type 0
  Right c o = DiscardsRightly l s (event c o)

  none : {c : Call} {o : Outcome} {f : Change} → Does s c o f → told o.answer ≡ 0 → (f l).discarded ≡ l.discarded → Right c o
  none d silent same = inl (silent, ap (λ (x : Ledger). x.discarded) (booked d) ∙ same)

  all : {c : Call} {o : Outcome} {f : Change} → Does s c o f → Discarding s.session.phase c o.answer (lost s.session) → (f l).discarded ≡ l.discarded ++ l.pending → Right c o
  all {c} {o} d telling gone = inr (subst (λ (n : ℕ). Discarding s.session.phase c o.answer n) lost_are telling, ap (λ (x : Ledger). x.discarded) (booked d) ∙ gone)

  misread : (octets : List ℕ) (fault : Fault) {p : Phase} (n : ℕ) → request_in octets ≡ Err fault → Bound p → Discarding p (invoke octets) (undecodable fault n) n
  misread octets fault n r when_ready = undecodable_ready octets fault n r
  misread octets fault n r when_active = undecodable_active octets fault n r

  by_reception : {c : Call} → Reception c → {o : Outcome} {f : Change} → Receives s c o f → Right c o
  by_reception w (does.turns_away n) = none (does.receiving w (does.turns_away n)) refl refl
  by_reception w (does.accepts r e well a) = none (does.receiving w (does.accepts r e well a)) refl refl

  by_collection : (n : ℕ) {o : Outcome} {f : Change} → Collects s o f → Right (collect n) o
  by_collection n (does.leaves k) = none (does.collecting_by n (does.leaves k)) refl refl
  by_collection n (does.collects pdu more e) = none (does.collecting_by n (does.collects pdu more e)) refl refl

  by_move : {o : Outcome} {f : Change} → Moves s o f → Right move o
  by_move (does.when_not_active h) = none (does.moving (does.when_not_active h)) refl refl
  by_move (does.at_end h) = none (does.moving (does.at_end h)) refl refl
  by_move (does.no_record h) = none (does.moving (does.no_record h)) refl refl
  by_move (Moves.sends h) = none (does.moving (Moves.sends h)) refl refl
  by_move (Moves.waits h k) = none (does.moving (Moves.waits h k)) refl refl
  by_move (does.ends r k h) = none (does.moving (does.ends r k h)) refl refl
  by_move (does.takes r k h w) = none (does.moving (does.takes r k h w)) refl refl
  by_move (does.passes r k h w) = none (does.moving (does.passes r k h w)) refl refl

  by_tick : {o : Outcome} {f : Change} → Ticks s o f → Right tick o
  by_tick (does.rests h) = none (does.ticking (does.rests h)) refl refl
  by_tick (does.grows_older a h) = none (does.ticking (does.grows_older a h)) refl refl
  by_tick (Ticks.sends a) = none (does.ticking (Ticks.sends a)) refl refl
  by_tick (Ticks.waits a h) = none (does.ticking (Ticks.waits a h)) refl refl

  by_invocation : (octets : List ℕ) {o : Outcome} {f : Change} → Invokes s octets o f → Right (invoke octets) o
  by_invocation octets (does.refused_by n) = none (does.invoking octets (does.refused_by n)) refl refl
  by_invocation octets (does.starts id q from until r e) = none (does.invoking octets (does.starts id q from until r e)) refl refl
  by_invocation octets (does.stops id r e) = none (does.invoking octets (does.stops id r e)) refl refl
  by_invocation octets (does.binds id version identifier r e) = none (does.invoking octets (does.binds id version identifier r e)) refl refl
  by_invocation octets (does.unbinds id reason r e) = none (does.invoking octets (does.unbinds id reason r e)) refl refl
  by_invocation octets (does.aborts diagnostic r b) = all (does.invoking octets (does.aborts diagnostic r b)) (by_abort s.session.phase octets diagnostic (lost s.session) r) refl
  by_invocation octets (does.errs request r e) = all (does.invoking octets (does.errs request r e)) (by_protocol_error s.session.phase octets request (lost s.session) r e) refl
  by_invocation octets (does.misreads fault r b) = all (does.invoking octets (does.misreads fault r b)) (misread octets fault (lost s.session) r b) refl
  by_invocation octets (does.misreads_unbound fault e) = none (does.invoking octets (does.misreads_unbound fault e)) refl refl

  pub rightly : {c : Call} {o : Outcome} {f : Change} → Does s c o f → Right c o
  rightly (does.receiving w r) = by_reception w r
  rightly (does.moving m) = by_move m
  rightly (does.ticking t) = by_tick t
  rightly (does.collecting_by n c) = by_collection n c
  rightly (does.invoking octets v) = by_invocation octets v
