-- Every call can be made, and any calls can be served.
use Rattle.std.proofs.Common.{◌≡◌, ℕ, leb, List, [], ◌∷◌, ◌++◌, length, drop, Some, sym, refl, ap, ◌∙◌, subst, arith}
use Rattle.std.proofs.lemmas.Bool.{cond-true, le-leb}
use Rattle.codec.specs.Records.{Record}
use Rattle.histories.specs.Queues.{Queue, Effect, add, drop_oldest, Dropped, After}
use Rattle.histories.specs.Calls.{Call, collect, Outcome}
use Rattle.histories.specs.Delivery.{collect_by}
use Rattle.histories.specs.Provider.{State, oldest, outcome}
use Rattle.histories.specs.Ledger.{Event}
use Rattle.histories.specs.Histories.{Step}
use Rattle.histories.specs.Examples.{ideal_after, state_after}
use Rattle.histories.specs.Progress.{Served, rests, collects, calls, CallsCanBeServed}
use Rattle.histories.proofs.Ideal.{ideal_lawful}
use Rattle.histories.proofs.Outcomes.{Receives, Moves, Ticks, Collects, Invokes, Does, Change, event}
use Rattle.histories.proofs.Outcomes as does

-- what an ideal queue makes of a call is one of the things that a queue may make of it
abbrev Can : Queue → Effect → Type 0
Can q e = After q e (ideal_after q e)

added : (q : Queue) (x : List ℕ) → Can q (add x)
added q x = record { held = refl; largest = refl; lawful = ideal_lawful q.largest (q.held ++ x ∷ []) }

dropped : (q : Queue) (x : List ℕ) (xs : List (List ℕ)) → q.held ≡ x ∷ xs → Can q drop_oldest
dropped q x xs e = record {
  oldest = x;
  held = e ∙ ap {B = List (List ℕ)} (λ (h : List (List ℕ)). x ∷ drop 1 h) (sym e);
  largest = refl;
  lawful = ideal_lawful q.largest (drop 1 q.held);
}

oldest_dropped : (q : Queue) (h : List (List ℕ)) → q.held ≡ h → (r : Record) → oldest h ≡ Some r → Can q drop_oldest
oldest_dropped q [] e r is = cc
oldest_dropped q (x ∷ xs) e r is = dropped q x xs e

abbrev Possible : State → Outcome → Type 0
Possible s o = Can s.frames o.on_frames × Can s.transport o.on_transport

module _ (s : State) where
  by_reception : {c : Call} {o : Outcome} {f : Change} → Receives s c o f → Possible s o
  by_reception (does.turns_away n) = (refl, refl)
  by_reception (does.accepts r e w a) = (added _ _, refl)

  by_collection : {o : Outcome} {f : Change} → Collects s o f → Possible s o
  by_collection (does.leaves n) = (refl, refl)
  by_collection (does.collects pdu more e) = (refl, dropped s.transport pdu more e)

  by_move : {o : Outcome} {f : Change} → Moves s o f → Possible s o
  by_move (does.when_not_active h) = (refl, refl)
  by_move (does.at_end h) = (refl, refl)
  by_move (does.no_record h) = (refl, refl)
  by_move (Moves.sends h) = (refl, added _ _)
  by_move (Moves.waits h k) = (refl, refl)
  by_move (does.ends r k h) = (refl, refl)
  by_move (does.takes r k h w) = (oldest_dropped s.frames s.frames.held refl r k.oldest_is, refl)
  by_move (does.passes r k h w) = (oldest_dropped s.frames s.frames.held refl r k.oldest_is, refl)

  by_tick : {o : Outcome} {f : Change} → Ticks s o f → Possible s o
  by_tick (does.rests h) = (refl, refl)
  by_tick (does.grows_older a h) = (refl, refl)
  by_tick (Ticks.sends a) = (refl, added _ _)
  by_tick (Ticks.waits a h) = (refl, refl)

  by_invocation : {octets : List ℕ} {o : Outcome} {f : Change} → Invokes s octets o f → Possible s o
  by_invocation (does.refused_by n) = (refl, refl)
  by_invocation (does.starts id q from until r e) = (refl, refl)
  by_invocation (does.stops id r e) = (refl, refl)
  by_invocation (does.binds id version identifier r e) = (refl, refl)
  by_invocation (does.unbinds id reason r e) = (refl, refl)
  by_invocation (does.aborts diagnostic r b) = (refl, refl)
  by_invocation (does.errs request r e) = (refl, refl)
  by_invocation (does.misreads fault r b) = (refl, refl)
  by_invocation (does.misreads_unbound fault e) = (refl, refl)

  possible : {c : Call} {o : Outcome} {f : Change} → Does s c o f → Possible s o
  possible (does.receiving w r) = by_reception r
  possible (does.moving m) = by_move m
  possible (does.ticking t) = by_tick t
  possible (does.collecting_by n c) = by_collection c
  possible (does.invoking octets i) = by_invocation i

  -- a step of each call
  pub makes : (c : Call) → Step s (event c (outcome s c)) (state_after s (outcome s c))
  makes c =
      let p = possible (does.does s c).1 in
      record { answer = refl; copied = refl; settings = refl; opening = refl; session = refl; frames = p.0; transport = p.1 }

abbrev Reaches : List Call → List Event → State → Type 0
Reaches cs es s = (es' : List Event) × (s' : State) × Served cs es s es' s'

abbrev made : State → Call → Event
made s c = event c (outcome s c)

collected : (s s' : State) (x : List ℕ) (xs : List (List ℕ)) → s.transport.held ≡ x ∷ xs → Step s (made s (collect (length x))) s' → s'.transport.held ≡ xs
unfolding collect_by
collected s s' x xs e st =
    let n : ℕ = length x in
    let drops : (collect_by s.session n s.transport.held).on_transport ≡ drop_oldest =
    ap (λ (h : List (List ℕ)). (collect_by s.session n h).on_transport) e
    ∙ ap (λ (o : Outcome). o.on_transport) (cond-true (leb n n) _ _ (le-leb n n (omega arith))) in
    let gone : Dropped s.transport s'.transport = subst (λ (y : Effect). After s.transport y s'.transport) drops st.transport in
    let same = sym e ∙ gone.held in
    cc

-- the collector empties the transport first
emptied_first : (cs : List Call) → ((es : List Event) (s : State) → s.transport.held ≡ [] → Reaches cs es s)
    → (h : List (List ℕ)) (es : List Event) (s : State) → s.transport.held ≡ h → Reaches cs es s
emptied_first cs go [] es s e = go es s e
emptied_first cs go (x ∷ xs) es s e =
    let c : Call = collect (length x) in
    let t : State = state_after s (outcome s c) in
    let more = emptied_first cs go xs (made s c ∷ es) t (collected s t x xs e (makes s c)) in
    (more.0, more.1, collects (length x) (made s c) refl (makes s c) more.2)

pub calls_can_be_served : CallsCanBeServed
calls_can_be_served [] es s = (es, s, rests)
calls_can_be_served (c ∷ cs) es s =
    emptied_first (c ∷ cs)
    (λ fs t e. let more = calls_can_be_served cs (made t c ∷ fs) (state_after t (outcome t c)) in (more.0, more.1, calls (made t c) e (makes t c) more.2))
    s.transport.held es s refl
