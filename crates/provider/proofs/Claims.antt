-- A call that leads where its outcome says is a step, and so goes on with every history.
use Rattle.std.proofs.Common.{◌≡◌, ℕ, List, sym, refl, subst, subst₂}
use Rattle.histories.specs.Calls.{Call, Answer, Outcome, says, refuses, refused}
use Rattle.histories.specs.Provider.{State, outcome}
use Rattle.histories.proofs.Soundness.{step_by, steps_continue}
use Rattle.provider.specs.States.{event, Leads, Called}

-- what an outcome says without touching anything
pub stays : (s : State) (a : Answer) → Leads s (says s.session a) a s
stays s a = record { answer = refl; settings = refl; opening = refl; session = refl; frames = refl; transport = refl }

pub called : (s s' : State) (c : Call) (a : Answer) (copied : List ℕ) (o : Outcome) → outcome s c ≡ o → copied ≡ o.copied → Leads s o a s' → Called s (event c a copied) s'
called s s' c a copied o comes e l =
    let st = step_by s s' (event c a copied) o comes l.answer e l.settings l.opening l.session l.frames l.transport in
    record { step = st; claim = steps_continue s s' (event c a copied) st }

-- a refusal touches nothing
pub refused_as : (s s' : State) {o : Outcome} (a : Answer) (n : ℕ) → s' ≡ s → o ≡ refuses s.session n → a ≡ refused n → Leads s o a s'
refused_as s s' a n same is e =
    subst₂ (λ x y. Leads s x a y) (sym is) (sym same) (record { answer = e; settings = refl; opening = refl; session = refl; frames = refl; transport = refl })

-- the same answer, by another term
pub answering : {s s' : State} {o : Outcome} {a b : Answer} → a ≡ b → Leads s o a s' → Leads s o b s'
answering {s = s} {s' = s'} {o = o} is l = subst (λ x. Leads s o x s') is l
