-- A replay: calls made one after the other on a provider that was just opened.
use Rattle.std.specs.Prelude.{◌≡◌, ℕ, List, [], ◌∷◌}
use Rattle.std.specs.Borrow.{Bor}
use Rattle.histories.specs.Provider.{State}
use Rattle.histories.specs.Ledger.{Event, blank, ledger}
use Rattle.histories.specs.Histories.{Step, History}
use Rattle.histories.specs.Statements.{Sound, Claim}
use Rattle.histories.specs.Accounts.{Account, nothing, account_of_events, Agrees}
use Rattle.replay.specs.Events.{event_of}
use Rattle.replay.specs.declared.answer.Answer.{Answer}
use Rattle.replay.specs.declared.call.Call.{Call}

-- The events of calls and their answers, the newest first, on top of earlier ones.
abbrev pub events_onto : List Event → List (Call (Bor (List ℕ))) → List Answer → List Event
events_onto es [] answers = es
events_onto es (c ∷ cs) [] = es
events_onto es (c ∷ cs) (a ∷ answers) = events_onto (event_of c a ∷ es) cs answers

abbrev pub events_of : List (Call (Bor (List ℕ))) → List Answer → List Event
events_of cs answers = events_onto [] cs answers

-- Each call, made on the result of the one before, does what is defined.
pub data Played (first : State) : List Event → State → Type 0 where
  none : Played first [] first
  one_more : {es : List Event} {s s' : State} (e : Event) → Played first es s → Step s e s' → Played first (e ∷ es) s'

-- The calls are a history; after the opening and after each call all that is claimed of histories holds, and the account of the answers so far agrees with the ledger.
pub data Claimed : List Event → State → Type 0 where
  at_opening : {s : State} → History [] s → Sound blank s → Agrees nothing blank s → Claimed [] s
  after_call : {es : List Event} {s s' : State} (e : Event) → Claimed es s → History (e ∷ es) s' → Claim (ledger es) s e s' → Agrees (account_of_events (e ∷ es)) (ledger (e ∷ es)) s' → Claimed (e ∷ es) s'

-- What a replay has come to: from the opened provider's state, by its events, with its account, to the last state.
pub record Replays (first : State) (es : List Event) (account : Account) (last : State) : Type 0 where
  pub played : Played first es last
  pub claimed : first.opening ≡ 0 → Claimed es last
  pub counted : account ≡ account_of_events es
