-- Every history keeps the invariant, and so every statement holds of it.
use Rattle.std.proofs.Common.{◌≡◌, ℕ, suc, ◌*◌, ◌<◌, Bool, true, false, cond, ◌&&◌, leb, List, [], length, sym, refl, ap, ◌∙◌, subst, ap₂, arith}
use Rattle.std.specs.List.{AllByRecursion}
use Rattle.std.proofs.lemmas.List.{nil_from_length}
use Rattle.std.proofs.lemmas.Bool.{and_parts, leb-true, eqb-true}
use Rattle.codec.specs.Limits.{longest_record}
use Rattle.histories.specs.Queues.{Queue, Lawful, After}
use Rattle.histories.specs.Sessions.{Settings}
use Rattle.histories.specs.Calls.{Call, Answer, Outcome}
use Rattle.histories.specs.Provider.{State, up_to, most_records, longest_latency, in_range, is_empty, opening_number, opened_as, opened, outcome}
use Rattle.histories.specs.Ledger.{Event, Entry, Ledger, blank, step, ledger}
use Rattle.histories.specs.Histories.{Step, History, opens, goes_on}
use Rattle.histories.specs.Statements.{records_of, Sound, Punctual, DiscardsRightly, Claim, Always, EachCall, StepsContinue}
use Rattle.histories.proofs.LedgerLaws.{lawful_blank, complete}
use Rattle.histories.proofs.Invariant.{Inv, led, delivered}
use Rattle.histories.proofs.Outcomes.{does, ticks, books, books_tick, event}
use Rattle.histories.proofs.Steps.{steps}
use Rattle.histories.proofs.Fates.{Accounted, accounted_blank, accounted, one_fate}
use Rattle.histories.proofs.Discards.{rightly}
use Rattle.histories.proofs.Latency.{punctual}

-- the event of a step is the one of its outcome
as_decided : (s s' : State) (e : Event) → Step s e s' → e ≡ event e.call (outcome s e.call)
as_decided s s' e st = ap₂ {C = Event} (λ (x : Answer) (y : List ℕ). record { call = e.call; answer = x; copied = y }) st.answer st.copied

-- what the ledger makes of a step
pub booked : (l : Ledger) (s s' : State) (e : Event) → Inv l s → Step s e s' → step l e ≡ (does s e.call).0 l
booked l s s' e i st = ap (λ (x : Event). step l x) (as_decided s s' e st) ∙ books s l (sym i.phase) (does s e.call).1

step_inv : (l : Ledger) (s s' : State) (e : Event) → Inv l s → Step s e s' → Inv (step l e) s'
step_inv l s s' e i st = subst (λ (x : Ledger). Inv x s') (sym (booked l s s' e i st)) (led (Inv ((does s e.call).0 l)) s s' e st (steps l s i (does s e.call).1))

passed : (b : Bool) (x n : ℕ) → cond b x (suc n) ≡ 0 → (b ≡ true) × (x ≡ 0)
passed true x n e = (refl, e)
passed false x n e = absurd (omega arith)

-- an accepted opening, by what it asked
accepted_by : (g : Settings) (frames transport : Queue) → opening_number g frames transport ≡ 0
    → (in_range g ≡ true) × ((is_empty frames && is_empty transport) ≡ true) × ((leb longest_record frames.largest && leb (g.buffer_size * longest_record) transport.largest) ≡ true)
unfolding opening_number
accepted_by g frames transport e =
    let a = passed (in_range g) _ 0 e in
    let b = passed (is_empty frames && is_empty transport) _ 1 a.1 in
    let c = passed _ 0 2 b.1 in
    (a.0, b.0, c.0)

empty_held : (q : Queue) → is_empty q ≡ true → q.held ≡ []
empty_held q e = nil_from_length q.held (eqb-true (length q.held) 0 e)

pub opened_empty : (g : Settings) (frames transport : Queue) → opening_number g frames transport ≡ 0 → (opened g frames transport).transport.held ≡ []
opened_empty g frames transport e =
    let b = (accepted_by g frames transport e).1 in
    subst (λ (n : ℕ). (opened_as n g frames transport).transport.held ≡ []) (sym e) (empty_held transport (and_parts (is_empty frames) (is_empty transport) b).1)

opened_inv : (g : Settings) (frames transport : Queue) → Lawful transport → opening_number g frames transport ≡ 0 → Inv blank (opened_as 0 g frames transport)
opened_inv g frames transport law e =
    let a = accepted_by g frames transport e in
    let sizes = and_parts (up_to most_records g.buffer_size) _ a.0 in
    let limits = and_parts (up_to longest_latency g.latency_limit) _ sizes.1 in
    let empties = and_parts (is_empty frames) (is_empty transport) a.1 in
    let widths = and_parts _ (leb (g.buffer_size * longest_record) transport.largest) a.2 in
    record {
      phase = refl;
      mark = refl;
      selection = refl;
      framed = record { are = empty_held frames empties.0; well = tt };
      buffered = record { are = refl; well = tt; few = omega arith; ages = λ _. tt };
      carried = record { are = ap (λ (x : List (List ℕ)). records_of x) (empty_held transport empties.1); well = tt };
      fitting = record {
        some_size = leb-true 1 g.buffer_size (and_parts (leb 1 g.buffer_size) _ sizes.0).0;
        some_limit = leb-true 1 g.latency_limit (and_parts (leb 1 g.latency_limit) _ limits.0).0;
        wide = leb-true (g.buffer_size * longest_record) transport.largest widths.1;
        lawful = law;
      };
      lawful = lawful_blank;
    }

pub history_inv : {es : List Event} {s : State} → History es s → Inv (ledger es) s
history_inv (opens g frames transport lf lt e) = subst (λ (n : ℕ). Inv blank (opened_as n g frames transport)) (sym e) (opened_inv g frames transport lt e)
history_inv (goes_on {es = es} {s = s} {s' = s'} e h st) = step_inv (ledger es) s s' e (history_inv h) st

history_accounted : {es : List Event} {s : State} → History es s → Accounted (ledger es)
history_accounted (opens g frames transport lf lt e) = accounted_blank
history_accounted (goes_on {es = es} {s = s} {s' = s'} e h st) =
    subst (λ (x : Ledger). Accounted x) (sym (booked (ledger es) s s' e (history_inv h) st)) (accounted (ledger es) (history_accounted h) s (does s e.call).1)

pub sound : {es : List Event} {s : State} → History es s → Sound (ledger es) s
sound {es} {s} h =
    let i : Inv (ledger es) s = history_inv h in
    record {
      delivered = delivered (ledger es) s i;
      complete = complete (ledger es) i.lawful;
      one_fate = one_fate (ledger es) (history_accounted h);
      untaken_held = i.framed.are;
    }

ticks_punctual : (l : Ledger) (s s' : State) (e : Event) → Inv l s → Step s e s' → Punctual s e (step l e)
ticks_punctual l s s' e i st is-tick on empty =
    subst (λ (x : Ledger). AllByRecursion (λ (y : Entry). y.ticks < s.settings.latency_limit) x.pending)
    (sym (ap (λ (x : Event). step l x) (as_decided s s' e st ∙ ap (λ (c : Call). event c (outcome s c)) is-tick) ∙ books_tick s l (sym i.phase) (ticks s).1))
    (punctual l s i empty on (ticks s).1)

discards_at : (l : Ledger) (s s' : State) (e : Event) → Inv l s → Step s e s' → DiscardsRightly l s e
discards_at l s s' e i st = subst (λ (x : Event). DiscardsRightly l s x) (sym (as_decided s s' e st)) (rightly l s i (does s e.call).1)

pub claim : {es : List Event} {s s' : State} (e : Event) → History es s → Step s e s' → Claim (ledger es) s e s'
claim {es} {s} {s'} e h st = record {
  sound = sound (goes_on e h st);
  punctual = ticks_punctual (ledger es) s s' e (history_inv h) st;
  discards = discards_at (ledger es) s s' e (history_inv h) st;
}

pub always_sound : Always Sound
always_sound es s h = sound h

pub each_claim : EachCall Claim
each_claim es s s' e h st = claim e h st

-- a call that answers and does what it comes to goes on with any history
pub steps_continue : StepsContinue
steps_continue s s' e st es h = (goes_on e h st, claim e h st)

-- for the proof of a call: what it comes to, and that it did so, makes a step
pub step_by : (s s' : State) (e : Event) (o : Outcome) → outcome s e.call ≡ o → e.answer ≡ o.answer → e.copied ≡ o.copied
    → s'.settings ≡ s.settings → s'.opening ≡ s.opening → s'.session ≡ o.session
    → After s.frames o.on_frames s'.frames → After s.transport o.on_transport s'.transport → Step s e s'
step_by s s' e o comes answered copied settings opening session frames transport = record {
  answer = answered ∙ sym (ap (λ (x : Outcome). x.answer) comes);
  copied = copied ∙ sym (ap (λ (x : Outcome). x.copied) comes);
  settings = settings;
  opening = opening;
  session = session ∙ sym (ap (λ (x : Outcome). x.session) comes);
  frames = subst (λ (x : Outcome). After s.frames x.on_frames s'.frames) (sym comes) frames;
  transport = subst (λ (x : Outcome). After s.transport x.on_transport s'.transport) (sym comes) transport;
}
