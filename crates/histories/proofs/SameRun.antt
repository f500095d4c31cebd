-- Moves, ticks and collections leave the ledger's run as it is.
use Rattle.std.proofs.Common.{◌≡◌, ℕ, zero, suc, List, replicate, sym, refl, ap, ◌∙◌, subst}
use Rattle.std.specs.List.{AllByRecursion}
use Rattle.histories.specs.Calls.{Call, move, tick, collect, Outcome}
use Rattle.histories.specs.Provider.{State}
use Rattle.histories.specs.Ledger.{Ledger, Event, ledger, step}
use Rattle.histories.specs.Histories.{Step, History, goes_on}
use Rattle.histories.specs.Progress.{Served, rests, collects, calls}
use Rattle.histories.proofs.Outcomes.{Reception, Moves, Ticks, Collects, Does, Change}
use Rattle.histories.proofs.Outcomes as does
use Rattle.histories.proofs.Soundness.{history_inv, booked}

-- the calls that are neither the receiver's nor the user's
pub data Inner : Call → Type 0 where
  moves : Inner move
  ticks : Inner tick
  collections : (n : ℕ) → Inner (collect n)

outer : {c : Call} → Reception c → Inner c → ⊥
outer (does.acquisition q t d) i = elim i [ ]
outer (does.noting type t v) i = elim i [ ]

module _ (s : State) (l : Ledger) where
  by_move : {o : Outcome} {f : Change} → Moves s o f → (f l).run ≡ l.run
  by_move (does.when_not_active h) = refl
  by_move (does.at_end h) = refl
  by_move (does.no_record h) = refl
  by_move (Moves.sends h) = refl
  by_move (Moves.waits h k) = refl
  by_move (does.ends r k h) = refl
  by_move (does.takes r k h w) = refl
  by_move (does.passes r k h w) = refl

  by_tick : {o : Outcome} {f : Change} → Ticks s o f → (f l).run ≡ l.run
  by_tick (does.rests h) = refl
  by_tick (does.grows_older a h) = refl
  by_tick (Ticks.sends a) = refl
  by_tick (Ticks.waits a h) = refl

  by_collection : {o : Outcome} {f : Change} → Collects s o f → (f l).run ≡ l.run
  by_collection (does.leaves n) = refl
  by_collection (does.collects pdu more e) = refl

  inner : {c : Call} {o : Outcome} {f : Change} → Does s c o f → Inner c → (f l).run ≡ l.run
  inner (does.receiving w r) q = absurd (outer w q)
  inner (does.moving m) q = by_move m
  inner (does.ticking t) q = by_tick t
  inner (does.collecting_by n c) q = by_collection c
  inner (does.invoking octets i) q = elim q [ ]

step_run : {es : List Event} {s s' : State} (e : Event) → History es s → Step s e s' → Inner e.call → (step (ledger es) e).run ≡ (ledger es).run
step_run {es} {s} {s'} e h st q = ap (λ (x : Ledger). x.run) (booked (ledger es) s s' e (history_inv h) st) ∙ inner s (ledger es) (does.does s e.call).1 q

pub all_replicate : {X : Type 0} (P : X → Type 0) (n : ℕ) (x : X) → P x → AllByRecursion P (replicate n x)
all_replicate P zero x p = tt
all_replicate P (suc n) x p = (p, all_replicate P n x p)

pub served_run : {cs : List Call} {es es' : List Event} {s s' : State} → Served cs es s es' s' → History es s → AllByRecursion Inner cs → (ledger es').run ≡ (ledger es).run
served_run rests h q = refl
served_run (collects n e is st more) h q = served_run more (goes_on e h st) q ∙ step_run e h st (subst (λ (c : Call). Inner c) (sym is) (collections n))
served_run (calls e empty st more) h q = served_run more (goes_on e h st) q.1 ∙ step_run e h st q.0
