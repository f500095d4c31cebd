-- A replay goes on by a call, and the claim with it.
use Rattle.std.proofs.Common.{◌≡◌, ℕ, ◌+◌, ◌^◌, ◌<◌, ◌≤◌, List, [], ◌∷◌, ◌++◌, length, get_or, take, sym, refl, ap, ◌∙◌, subst, subst₂, arith, length-take-le, take_all}
use Rattle.std.specs.Borrow.{Bor}
use Rattle.std.proofs.lemmas.List.{take_more, length_push}
use Rattle.histories.specs.Provider.{State}
use Rattle.histories.specs.Ledger.{Event}
use Rattle.histories.specs.Histories.{History}
use Rattle.histories.specs.Accounts.{Account, nothing, counted}
use Rattle.histories.proofs.Accounts.{accounts_agree}
use Rattle.provider.specs.Opening.{Begins}
use Rattle.provider.specs.States.{Called}
use Rattle.replay.specs.Events.{event_of, answer_of}
use Rattle.replay.specs.Accounts.{Becomes}
use Rattle.replay.specs.Replays.{events_onto, events_of, none, one_more, Claimed, at_opening, after_call, Replays}
use Rattle.replay.specs.declared.answer.Answer.{Answer}
use Rattle.replay.specs.declared.call.Call.{Call}
use Rattle.replay.proofs.Counting.{Bounded, bounded_nothing, one_counted}

events_push : (es : List Event) (cs : List (Call (Bor (List ℕ)))) (answers : List Answer) (c : Call (Bor (List ℕ))) (a : Answer) → length answers ≡ length cs → events_onto es (cs ++ c ∷ []) (answers ++ a ∷ []) ≡ event_of c a ∷ events_onto es cs answers
events_push es [] [] c a e = refl
events_push es [] (x ∷ answers) c a e = absurd (omega arith)
events_push es (d ∷ cs) [] c a e = absurd (omega arith)
events_push es (d ∷ cs) (x ∷ answers) c a e = events_push (event_of d x ∷ es) cs answers c a (omega arith)

history_of : {es : List Event} {s : State} → Claimed es s → History es s
history_of (at_opening h sound agrees) = h
history_of (after_call e claimed h claim agrees) = h

pub opens : (s : State) → Begins s → Replays s [] nothing s
opens s begins = record {
  played = none;
  claimed = λ o. let b = begins o in at_opening b.0 b.1 (accounts_agree [] s b.0);
  counted = refl;
}

goes_on : (first s s' : State) (es : List Event) (account account' : Account) (e : Event) → Replays first es account s → Called s e s' → account' ≡ counted e.answer account → Replays first (e ∷ es) account' s'
goes_on first s s' es account account' e r c is = record {
  played = one_more e r.played c.step;
  claimed = λ o.
      let k = r.claimed o in
      let more = c.claim es (history_of k) in
      after_call e k more.0 more.1 (accounts_agree (e ∷ es) s' more.0);
  counted = is ∙ ap (λ (x : Account). counted e.answer x) r.counted;
}

-- where a replay stands after i calls
pub record Stands (first : State) (cs : List (Call (Bor (List ℕ)))) (i : ℕ) (answers : List Answer) (account : Account) (s : State) : Type 0 where
  pub within : i ≤ length cs
  pub answered : length answers ≡ i
  pub bounded : Bounded account i
  pub replays : Replays first (events_of (take i cs) answers) account s

pub begins : (s : State) (cs : List (Call (Bor (List ℕ)))) (answers : List Answer) (account : Account) → Begins s → answers ≡ [] → account ≡ nothing → Stands s cs 0 answers account s
begins s cs answers account b none_yet zeros = record {
  within = omega arith;
  answered = ap (λ (x : List Answer). length x) none_yet;
  bounded = bounded_nothing account zeros;
  replays = subst (λ (x : Account). Replays s [] x s) (sym zeros) (opens s b);
}

pub one_more_call : (first s s' : State) (cs : List (Call (Bor (List ℕ)))) (i : ℕ) (answers answers' : List Answer) (account account' : Account) (d : Call (Bor (List ℕ))) (a : Answer) → Stands first cs i answers account s → i < length cs → i + 1 < 2 ^ 64
    → Called s (event_of (get_or cs i d) a) s' → Becomes (counted (answer_of a) account) account' → answers' ≡ answers ++ a ∷ [] → Stands first cs (i + 1) answers' account' s'
one_more_call first s s' cs i answers answers' account account' d a st lt few called becomes pushed =
    let more = one_counted (answer_of a) account account' i st.bounded few becomes in
    let events : events_of (take (i + 1) cs) answers' ≡ event_of (get_or cs i d) a ∷ events_of (take i cs) answers =
    ap (λ (x : List Answer). events_of (take (i + 1) cs) x) pushed
    ∙ ap (λ (x : List (Call (Bor (List ℕ)))). events_of x (answers ++ a ∷ [])) (take_more cs i d lt)
    ∙ events_push [] (take i cs) answers (get_or cs i d) a (st.answered ∙ sym (length-take-le i cs st.within)) in
    record {
      within = omega arith;
      answered = ap (λ (x : List Answer). length x) pushed ∙ length_push answers a ∙ omega arith;
      bounded = more.1;
      replays = subst (λ (x : List Event). Replays first x account' s') (sym events) (goes_on first s s' _ account account' (event_of (get_or cs i d) a) st.replays called more.0);
    }

pub all_played : (opened first last : State) (cs : List (Call (Bor (List ℕ)))) (i : ℕ) (answers : List Answer) (account : Account) → first ≡ opened → length cs ≤ i → Stands first cs i answers account last
    → (length answers ≡ length cs) × Replays opened (events_of cs answers) account last
all_played opened first last cs i answers account is le st =
    (omega (arith, st.answered, st.within), subst₂ (λ (x : State) (y : List (Call (Bor (List ℕ)))). Replays x (events_of y answers) account last) is (take_all i cs le) st.replays)
