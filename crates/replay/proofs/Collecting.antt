-- A collection into a buffer that is no longer than the oldest PDU comes to the same as one into the whole.
use Rattle.std.proofs.Common.{◌≡◌, ℕ, min, Bool, true, false, cond, leb, List, [], ◌∷◌, length, take, drop, Ok, Err, Result, sym, refl, ap, ◌∙◌, subst, arith}
use Rattle.std.proofs.lemmas.List.{take_at}
use Rattle.std.proofs.lemmas.Bool.{leb-true, leb-false, le-leb, lt-leb, cond_both}
use Rattle.histories.specs.Calls.{Answer, Outcome, collect, refused, collected, refuses}
use Rattle.histories.specs.Sessions.{Session}
use Rattle.histories.specs.Delivery.{collecting, collect_by}
use Rattle.histories.specs.Provider.{State, outcome}
use Rattle.histories.proofs.Soundness.{step_by, steps_continue}
use Rattle.std.specs.Result.{result_unwrap_or}
use Rattle.provider.specs.Answers.{collection_answer}
use Rattle.provider.specs.declared.answer.CollectionRefusal.{CollectionRefusal}
use Rattle.provider.specs.States.{event, Called, waiting_answer, copied_into}

as_short : (a n : ℕ) → leb a (min a n) ≡ leb a n
as_short a n = elim (leb a n) as (λ b. leb a n ≡ b → leb a (min a n) ≡ b) [
  | true ↦ λ e. let h = leb-true a n e in le-leb a (min a n) (omega arith)
  | false ↦ λ e. let h = leb-false a n e in lt-leb a (min a n) (omega arith)
] refl

module _ (x : Session) (n : ℕ) where
  same_collection : (pdu : List ℕ) (pdus : List (List ℕ)) → collect_by x (min (length pdu) n) (pdu ∷ pdus) ≡ collect_by x n (pdu ∷ pdus)
  unfolding collect_by
  same_collection pdu pdus = ap (λ (b : Bool). cond b (collecting x pdu) (refuses x 34)) (as_short (length pdu) n)

  -- by the length of the PDU that waits, if one does
  pub as_large : (held : List (List ℕ)) (r : Result ℕ CollectionRefusal) → collection_answer r ≡ waiting_answer held → collect_by x (min (result_unwrap_or r 0) n) held ≡ collect_by x n held
  unfolding collect_by
  as_large [] r e = refl
  as_large (pdu ∷ pdus) (Ok k) e =
      let is : k ≡ length pdu = cc in
      ap (λ (m : ℕ). collect_by x (min m n) (pdu ∷ pdus)) is ∙ same_collection pdu pdus
  as_large (pdu ∷ pdus) (Err refusal) e = absurd (cc)

  -- what was collected stands at the front of the buffer
  pub whole : (held : List (List ℕ)) (k : ℕ) (out : List ℕ) → collected k ≡ (collect_by x n held).answer → (take k (copied_into (collect_by x n held).copied out) ≡ (collect_by x n held).copied) × (k ≡ length (collect_by x n held).copied)
  unfolding collect_by
  whole [] k out = λ e. absurd (cc)
  whole (pdu ∷ pdus) k out = cond_both (leb (length pdu) n) (collecting x pdu) (refuses x 34)
      (λ (o : Outcome). collected k ≡ o.answer → (take k (copied_into o.copied out) ≡ o.copied) × (k ≡ length o.copied))
      (λ _ e. let is : length pdu ≡ k = cc in (take_at pdu (drop (length pdu) out) k is, sym is))
      (λ _ e. absurd (cc))

  pub refused_nothing : (held : List (List ℕ)) (k : ℕ) → refused k ≡ (collect_by x n held).answer → (collect_by x n held).copied ≡ []
  unfolding collect_by
  refused_nothing [] k = λ e. refl
  refused_nothing (pdu ∷ pdus) k = cond_both (leb (length pdu) n) (collecting x pdu) (refuses x 34)
      (λ (o : Outcome). refused k ≡ o.answer → o.copied ≡ [])
      (λ _ e. absurd (cc))
      (λ _ e. refl)

  pub none_waits : (held : List (List ℕ)) (k : ℕ) → refused k ≡ waiting_answer held → collect_by x n held ≡ refuses x k
  unfolding collect_by
  none_waits [] k e = let is : k ≡ 30 = cc in ap (λ (m : ℕ). refuses x m) (sym is)
  none_waits (pdu ∷ pdus) k e = absurd (cc)

-- the same call, made with another buffer
pub recalled : (s s' : State) (n m : ℕ) (a : Answer) (copied copied' : List ℕ) → outcome s (collect n) ≡ outcome s (collect m) → copied' ≡ copied → Called s (event (collect m) a copied) s' → Called s (event (collect n) a copied') s'
recalled s s' n m a copied copied' same e c =
    let st = step_by s s' (event (collect n) a copied') (outcome s (collect m)) same c.step.answer (e ∙ c.step.copied) c.step.settings c.step.opening c.step.session c.step.frames c.step.transport in
    record { step = st; claim = steps_continue s s' (event (collect n) a copied') st }

-- what stays of the buffer is what was copied
module _ (s s' : State) (n : ℕ) where
  pub cut : (count : ℕ) (out out' v : List ℕ) → Called s (event (collect n) (collected count) (outcome s (collect n)).copied) s' → out' ≡ copied_into (outcome s (collect n)).copied out
      → v ≡ take count out' → Called s (event (collect n) (collected (length v)) v) s'
  cut count out out' v c written truncated =
      let w = whole s.session n s.transport.held count out c.step.answer in
      let v-is : v ≡ (outcome s (collect n)).copied = truncated ∙ ap (λ (x : List ℕ). take count x) written ∙ w.0 in
      let count-is : length v ≡ count = ap (λ (x : List ℕ). length x) v-is ∙ sym w.1 in
      subst (λ (m : ℕ). Called s (event (collect n) (collected m) v) s') (sym count-is) (recalled s s' n n (collected count) _ v refl v-is c)

  pub nothing_kept : (number : ℕ) → Called s (event (collect n) (refused number) (outcome s (collect n)).copied) s' → Called s (event (collect n) (refused number) []) s'
  nothing_kept number c = recalled s s' n n (refused number) _ [] refl (sym (refused_nothing s.session n s.transport.held number c.step.answer)) c

-- with as many octets as wait, if fewer than n
pub as_whole : (s₀ s s' : State) (r : Result ℕ CollectionRefusal) (n m : ℕ) (a : Answer) (copied : List ℕ) → s ≡ s₀ → collection_answer r ≡ waiting_answer s₀.transport.held → m ≡ min (result_unwrap_or r 0) n
    → Called s (event (collect m) a copied) s' → Called s₀ (event (collect n) a copied) s'
as_whole s₀ s s' r n m a copied kept waits long c =
    let still : collection_answer r ≡ waiting_answer s.transport.held = waits ∙ ap (λ (x : State). waiting_answer x.transport.held) (sym kept) in
    let same : outcome s (collect n) ≡ outcome s (collect m) = sym (ap (λ (k : ℕ). collect_by s.session k s.transport.held) long ∙ as_large s.session n s.transport.held r still) in
    subst (λ (x : State). Called x (event (collect n) a copied) s') kept (recalled s s' n m a copied copied same refl c)
