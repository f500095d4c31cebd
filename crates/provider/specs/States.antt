-- The code's provider over two queues, as the provider's definition has it, and what a call leads to.
use Rattle.std.specs.Prelude.{◌≡◌, ℕ, cond, List, [], ◌∷◌, ◌++◌, length, drop}
use Rattle.queue.specs.declared.meaning.Meaning.{Ghosts}
use Rattle.codec.specs.Times.{Stamp}
use Rattle.codec.specs.declared.time.TimeNumbers.{TimeNumbers}
use Rattle.histories.specs.Queues.{Queue, After, keep, add}
use Rattle.histories.specs.Sessions.{Session}
use Rattle.histories.specs.Calls.{Call, Answer, accepted, refused, collected, Outcome, refuses}
use Rattle.histories.specs.Provider.{State}
use Rattle.histories.specs.Ledger.{Event}
use Rattle.histories.specs.Histories.{Step}
use Rattle.histories.specs.Statements.{Continues}
use Rattle.provider.specs.Answers.{opening_answer}
use Rattle.provider.specs.Sessions.{settings_of, session_of}
use Rattle.provider.specs.declared.provider.Provider.{Provider}

-- A queue by its meaning.
abbrev pub queue_of : {Q : Type 0} → Ghosts Q → Q → Queue
queue_of g q = record { held = g.held q; largest = g.largest q; room = g.room q }

abbrev pub state_of : {F T : Type 0} → Ghosts F → Ghosts T → Provider F T → State
state_of f t p = record {
  settings = settings_of p.session.settings;
  opening = opening_answer p.session.opening;
  session = session_of p.session;
  frames = queue_of f p.frames;
  transport = queue_of t p.transport;
}

-- A time by its numbers.
abbrev pub numbers : TimeNumbers → Stamp
numbers n = record { day = n.day; millisecond = n.millisecond; microsecond = n.microsecond }

-- A call, its answer, and the octets that it copied out.
abbrev pub event : Call → Answer → List ℕ → Event
event c a copied = record { call = c; answer = a; copied = copied }

-- From s a part of a call answers a and leads to s', as the outcome says.
pub record Leads (s : State) (o : Outcome) (a : Answer) (s' : State) : Type 0 where
  pub answer : a ≡ o.answer
  pub settings : s'.settings ≡ s.settings
  pub opening : s'.opening ≡ s.opening
  pub session : s'.session ≡ o.session
  pub frames : After s.frames o.on_frames s'.frames
  pub transport : After s.transport o.on_transport s'.transport

-- The caller's buffer afterwards: the octets copied at its front, its rest untouched.
abbrev pub copied_into : List ℕ → List ℕ → List ℕ
copied_into copied out = copied ++ drop (length copied) out

-- The length of the oldest PDU that waits, or that none does.
abbrev pub waiting_answer : List (List ℕ) → Answer
waiting_answer [] = refused 30
waiting_answer (pdu ∷ pdus) = collected (length pdu)

-- A call does what is defined, and so goes on with whatever history led to it: all that is claimed of histories holds
-- after it.
pub record Called (s : State) (e : Event) (s' : State) : Type 0 where
  pub step : Step s e s'
  pub claim : Continues s e s'

-- A call of the provider p leaves it as p'.
abbrev pub Does : {F T : Type 0} → Ghosts F → Ghosts T → Provider F T → Event → Provider F T → Type 0
Does f t p e p' = Called (state_of f t p) e (state_of f t p')

-- A part of a call of the provider p, which comes to an outcome by its state, leaves it as p'.
abbrev pub ComesTo : {F T : Type 0} → Ghosts F → Ghosts T → Provider F T → (State → Outcome) → Answer → Provider F T → Type 0
ComesTo f t p outcome_of a p' = Leads (state_of f t p) (outcome_of (state_of f t p)) a (state_of f t p')

-- Octets offered to the frame buffer: taken if it has room for them, else refused.
abbrev pub offering : Session → Queue → List ℕ → Outcome
offering s frames octets =
    cond (frames.room (length octets))
    (record { answer = accepted; copied = []; session = s; on_frames = add octets; on_transport = keep })
    (refuses s 13)
