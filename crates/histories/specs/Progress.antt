-- Delivery goes on: a run that is served finishes, and any calls can be served.
use Rattle.std.specs.Prelude.{◌≡◌, List, [], ◌∷◌, ◌++◌, ℕ, ◌*◌, ◌≤◌, length, replicate}
use Rattle.histories.specs.Sessions.{active}
use Rattle.histories.specs.Calls.{Call, move, tick, collect}
use Rattle.histories.specs.Provider.{State}
use Rattle.histories.specs.Ledger.{Event, Ledger, ledger}
use Rattle.histories.specs.Histories.{Step, History}
use Rattle.histories.specs.Statements.{Finished}

-- From one history to a longer one by calls made in this order, each finding the transport empty; between them the collector may collect.
pub data Served : List Call → List Event → State → List Event → State → Type 0 where
  rests : {es : List Event} {s : State} → Served [] es s es s
  collects : {cs : List Call} {es es' : List Event} {s t s' : State} (n : ℕ) (e : Event) → e.call ≡ collect n → Step s e t
      → Served cs (e ∷ es) t es' s' → Served cs es s es' s'
  calls : {cs : List Call} {es es' : List Event} {s t s' : State} (e : Event) → s.transport.held ≡ [] → Step s e t
      → Served cs (e ∷ es) t es' s' → Served (e.call ∷ cs) es s es' s'

-- Whatever the calls and the state, they can be served so.
abbrev pub CallsCanBeServed : Type 0
CallsCanBeServed = (cs : List Call) (es : List Event) (s : State) → (es' : List Event) × (s' : State) × Served cs es s es' s'

-- The run of l is that of l', and has finished there.
abbrev pub Finishes : Ledger → Ledger → Type 0
Finishes l l' = Finished l' × (l'.run ≡ l.run)

-- From any active state, at least twice as many moves as records are untaken, and then at least as many ticks as the latency limit, finish the run.
abbrev pub ServedRunsFinish : Type 0
ServedRunsFinish =
    (es es' : List Event) (s s' : State) (moves ticks : ℕ) → History es s → s.session.phase ≡ active
    → 2 * length (ledger es).untaken ≤ moves → s.settings.latency_limit ≤ ticks
    → Served (replicate moves move ++ replicate ticks tick) es s es' s'
    → Finishes (ledger es) (ledger es')
