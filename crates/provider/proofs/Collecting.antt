-- What a collection comes to.
use Rattle.std.proofs.Common.{◌≡◌, ℕ, ◌<◌, ◌≤◌, List, [], ◌∷◌, ◌++◌, length, drop, sym, ◌∙◌, arith}
use Rattle.std.proofs.lemmas.Bool.{le-leb, lt-leb}
use Rattle.queue.specs.Answers.{gives, first_answer, read_buffer}
use Rattle.queue.proofs.Carrying.{read_whole}
use Rattle.histories.specs.Sessions.{Session}
use Rattle.histories.specs.Calls as calls
use Rattle.histories.specs.Delivery.{collecting, collect_by}
use Rattle.provider.specs.States.{waiting_answer}

-- what waits, by the queue's own answer
pub first_waits : (held : List (List ℕ)) (n : ℕ) → calls.collected n ≡ waiting_answer held → gives n ≡ first_answer held
first_waits held n e = grind arith

module _ (s : Session) (size : ℕ) where
  pub nothing_waits : (held : List (List ℕ)) (k : ℕ) → calls.refused k ≡ waiting_answer held → (collect_by s size held ≡ calls.refuses s 30) × (k ≡ 30)
  unfolding collect_by
  nothing_waits held k e = grind arith

  pub too_short : (held : List (List ℕ)) (n : ℕ) → gives n ≡ first_answer held → size < n → collect_by s size held ≡ calls.refuses s 34
  unfolding collect_by
  too_short [] n e h = absurd (cc)
  too_short (pdu ∷ pdus) n e h =
      let is : n ≡ length pdu = cc in
      let t = lt-leb (length pdu) size (omega arith) in
      rw t

  -- the oldest PDU is collected, and stands at the front of the buffer
  pub collects : (held : List (List ℕ)) (n : ℕ) (out out' : List ℕ) → gives n ≡ first_answer held → n ≤ size → length out ≡ size → out' ≡ read_buffer held 0 out
      → (pdu : List ℕ) × (length pdu ≡ n) × (collect_by s size held ≡ collecting s pdu) × (out' ≡ pdu ++ drop (length pdu) out)
  unfolding collect_by
  collects [] n out out' e h l r = absurd (cc)
  collects (pdu ∷ pdus) n out out' e h l r =
      let is : n ≡ length pdu = cc in
      let t = le-leb (length pdu) size (omega arith) in
      (pdu, sym is, rw t, r ∙ read_whole pdu pdus out (omega arith))
