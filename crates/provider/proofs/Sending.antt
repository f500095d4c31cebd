-- What sending the whole transfer buffer comes to.
use Rattle.std.proofs.Common.{◌≡◌, ℕ, Bool, true, false, cond, List, [], length, take, drop, Result, MatchResult, sym, refl, ap, ◌∙◌, subst, arith}
use Rattle.std.proofs.lemmas.List.{take_all, drop_all}
use Rattle.std.specs.Result.{is_ok}
use Rattle.histories.specs.Queues.{Queue, Added, keep, add}
use Rattle.histories.specs.Sessions.{Session, holding}
use Rattle.histories.specs.Calls.{Answer, Outcome, says, sent, waiting}
use Rattle.histories.specs.Delivery.{transfer_pdu, send_first, send}
use Rattle.histories.specs.Provider.{State}
use Rattle.provider.specs.States.{Leads}
use Rattle.provider.proofs.Queues.{AddedIf}

pub leads_by : (s s' : State) (o p : Outcome) (a : Answer) → o ≡ p → Leads s p a s' → Leads s o a s'
leads_by s s' o p a e l = subst (λ (x : Outcome). Leads s x a s') (sym e) l

module _ (s : Session) (transport : Queue) where
  all_taken : take (length s.buffer) s.buffer ≡ s.buffer
  all_taken = take_all (length s.buffer) s.buffer (omega arith)

  none_left : drop (length s.buffer) s.buffer ≡ []
  none_left = drop_all (length s.buffer) s.buffer (omega arith)

  pub sends : transport.room (length (transfer_pdu s.buffer)) ≡ true
      → send s transport ≡ record { answer = sent; copied = []; session = holding [] s; on_frames = keep; on_transport = add (transfer_pdu s.buffer) }
  unfolding send_first
  sends room = rw (all_taken, none_left, room)

  pub waits : transport.room (length (transfer_pdu s.buffer)) ≡ false → send s transport ≡ says s waiting
  unfolding send_first
  waits room = rw (all_taken, room)

  pub copies_nothing : [] ≡ (send s transport).copied
  unfolding send_first
  copies_nothing = either (transport.room (length (transfer_pdu (take (length s.buffer) s.buffer))))
    where
      either : (b : Bool)
          → [] ≡ (cond b (record { answer = sent; copied = []; session = holding (drop (length s.buffer) s.buffer) s; on_frames = keep; on_transport = add (transfer_pdu (take (length s.buffer) s.buffer)) }) (says s waiting)).copied
      either b = grind arith

-- what an addition to the transport came to is what sending comes to
pub sending : (s s' : State) (b : Bool) (x : List ℕ) → x ≡ transfer_pdu s.session.buffer → AddedIf b s.transport x s'.transport → s'.settings ≡ s.settings → s'.opening ≡ s.opening
    → s'.session ≡ cond b (holding [] s.session) s.session → s'.frames ≡ s.frames → Leads s (send s.session s.transport) (cond b sent waiting) s'
sending s s' true x is a settings opening session frames =
    let room : s.transport.room (length (transfer_pdu s.session.buffer)) ≡ true = ap (λ y. s.transport.room (length y)) (sym is) ∙ a.0 in
    leads_by s s' _ _ _ (sends s.session s.transport room)
    (record { answer = refl; settings = settings; opening = opening; session = session; frames = frames; transport = subst (λ y. Added s.transport y s'.transport) is a.1 })
sending s s' false x is a settings opening session frames =
    let none : s.transport.room (length (transfer_pdu s.session.buffer)) ≡ false = ap (λ y. s.transport.room (length y)) (sym is) ∙ a.0 in
    leads_by s s' _ _ _ (waits s.session s.transport none) (record { answer = refl; settings = settings; opening = opening; session = session; frames = frames; transport = a.1 })

-- an answer that tells whether the PDU was sent
pub sending_answer : {A E : Type 0} (says_so : A → Answer) (was was_not : A) (r : Result (Unit {0}) E) (a : A) → says_so was ≡ sent → says_so was_not ≡ waiting
    → MatchResult r (λ u. a ≡ was) (λ e. a ≡ was_not) → cond (is_ok r) sent waiting ≡ says_so a
sending_answer says_so was was_not r a y n is = grind arith
