-- Histories: from an accepted opening on, any sequence of calls, refused ones too, each on the result of the one before, over any lawful queues.
use Rattle.std.specs.Prelude.{◌≡◌, List, [], ◌∷◌}
use Rattle.histories.specs.Queues.{Queue, Lawful, After}
use Rattle.histories.specs.Sessions.{Settings}
use Rattle.histories.specs.Provider.{State, opening_number, opened, outcome}
use Rattle.histories.specs.Ledger.{Event}

-- A call of the provider: from state s, by the event e, to state s'. It answers, copies and does what it comes to; what a queue makes of its room is free within the laws.
pub record Step (s : State) (e : Event) (s' : State) : Type 0 where
  pub answer : e.answer ≡ (outcome s e.call).answer
  pub copied : e.copied ≡ (outcome s e.call).copied
  pub settings : s'.settings ≡ s.settings
  pub opening : s'.opening ≡ s.opening
  pub session : s'.session ≡ (outcome s e.call).session
  pub frames : After s.frames (outcome s e.call).on_frames s'.frames
  pub transport : After s.transport (outcome s e.call).on_transport s'.transport

-- A history: its events, the newest first, and the state that it has led to.
pub data History : List Event → State → Type 0 where
  opens : (g : Settings) (frames transport : Queue) → Lawful frames → Lawful transport
      → opening_number g frames transport ≡ 0 → History [] (opened g frames transport)
  goes_on : {es : List Event} {s s' : State} (e : Event) → History es s → Step s e s' → History (e ∷ es) s'
