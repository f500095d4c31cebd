-- Whatever a call comes to, the invariant is kept.
use Rattle.std.proofs.Common.{◌≡◌, ℕ, suc, ◌*◌, ◌<◌, ◌≤◌, Bool, true, false, ◌&&◌, List, [], ◌∷◌, ◌++◌, map, length, drop, Some, None, Ok, Option, sym, refl, ap, ◌∙◌, subst, inl, inr, append_assoc, arith}
use Rattle.std.specs.List.{AllByRecursion}
use Rattle.std.proofs.lemmas.List.{map_push, map-append, length-map, length_push, nil_from_length}
use Rattle.std.proofs.ByRecursion.{All-push, All-append}
use Rattle.std.proofs.lemmas.Bool.{ltb-true, true≢false, cond-true, cond-false, cond_both, and_cases}
use Rattle.codec.specs.declared.record.ProductionStatus.{ProductionStatus}
use Rattle.codec.specs.declared.invocation.UnbindReason.{UnbindReason}
use Rattle.codec.specs.declared.invocation.UnbindReason.TheVariants.{End, Suspend, VersionNotSupported, Other}
use Rattle.codec.specs.Limits.{longest_record}
use Rattle.codec.specs.Records.{Record, frame, loss, status, end_of_data, encode, WellFormed}
use Rattle.codec.specs.RecordReading.{records_in}
use Rattle.histories.specs.Queues.{Queue, Lawful, Dropped}
use Rattle.histories.specs.Sessions.{Phase, unbound, ready, active, is_active, Settings, Selection, late, selected, Session, to_phase, producing, aged, holding, marked, selecting, age_at_entry, entered}
use Rattle.histories.specs.Calls.{Call, refused, idle, waiting, ended, quiet, start_done, stop_done, bind_done, unbind_done, abort_done, undecodable, protocol_error, Outcome, says}
use Rattle.histories.specs.Delivery.{is_young, collecting, transfer_pdu, is_filled}
use Rattle.histories.specs.Invocations.{after_unbind, is_accepted, lost, selection_of}
use Rattle.histories.specs.Provider.{State, ends_run, is_taken, produced, oldest, ending, taking, passing}
use Rattle.histories.specs.Ledger.{Acceptance, Entry, Ledger, accept, entry, take_oldest, pass_oldest, end_run, older, count_tick, hand_over, begin_run, lose_association, set_phase, set_pending, set_pdus, record_of}
use Rattle.histories.specs.Statements.{records_of, octets_of}
use Rattle.codec_laws.proofs.RecordsJoined.{records_written}
use Rattle.codec_laws.proofs.OneRecord.{one_record_written}
use Rattle.histories.proofs.Pdus.{records_push}
use Rattle.histories.proofs.Entries.{WellAccepted, WellEntered, well_records, well_older, records_older}
use Rattle.histories.proofs.LedgerLaws.{lawful_accept, took_oldest, passed_oldest, takes_oldest, passes_oldest, lawful_take, lawful_pass, lawful_end, lawful_older, lawful_hand, lawful_pdu, lawful_phase, lawful_begin, lawful_lose}
use Rattle.histories.proofs.Invariant.{Within, Framed, Buffered, Fitting, Inv, placed, Leads, keeping}
use Rattle.histories.proofs.Outcomes.{admitting, sending, Looks, Receives, Moves, Ticks, Collects, Invokes, Does, Change}
use Rattle.histories.proofs.Outcomes as does

-- one entry more in the transfer buffer
enter_ages : (limit age : ℕ) (rs : List Record) (es : List Entry) (f : Entry) → rs ≡ map record_of es → f.ticks ≡ 0 → (age < limit → AllByRecursion (Within age) es)
    → age_at_entry rs age < limit → AllByRecursion (Within (age_at_entry rs age)) (es ++ f ∷ [])
enter_ages limit age [] es f are new ages h =
    let none : length es ≡ 0 = sym (length-map es record_of) ∙ ap (λ (x : List Record). length x) (sym are) in
    subst (λ (x : List Entry). AllByRecursion (Within 0) (x ++ f ∷ [])) (sym (nil_from_length es none)) (omega arith, tt)
enter_ages limit age (r ∷ rs) es f are new ages h = All-push (Within age) es f (ages h) (omega arith)

enter : (g : Settings) (rs : List Record) (age : ℕ) (es : List Entry) (f : Entry) → Buffered g rs age es → f.ticks ≡ 0 → WellEntered f → (length rs ≡ g.buffer_size → ⊥)
    → Buffered g (rs ++ record_of f ∷ []) (age_at_entry rs age) (es ++ f ∷ [])
enter g rs age es f b new well space =
    let few = b.few in
    let more = length_push rs (record_of f) in
    record {
      are = ap (λ (x : List Record). x ++ record_of f ∷ []) b.are ∙ sym (map_push record_of es f);
      well = All-push WellEntered es f b.well well;
      few = omega arith;
      ages = enter_ages g.latency_limit age rs es f b.are new b.ages;
    }

older_within : (n : ℕ) (es : List Entry) → AllByRecursion (Within n) es → AllByRecursion (Within (suc n)) (map older es)
older_within n [] a = tt
older_within n (e ∷ es) a = (omega arith, older_within n es a.1)

emptied : (g : Settings) (age : ℕ) → Buffered g [] age []
emptied g age = record { are = refl; well = tt; few = omega arith; ages = λ _. tt }

refit : (g : Settings) (q q' : Queue) → Fitting g q → q'.largest ≡ q.largest → Lawful q' → Fitting g q'
refit g q q' f same law = record {
  some_size = f.some_size;
  some_limit = f.some_limit;
  wide = subst (λ (x : ℕ). g.buffer_size * longest_record ≤ x) (sym same) f.wide;
  lawful = law;
}

sends : (l : Ledger) (s : State) (x : Session) → Inv l (placed s x s.frames s.transport) → Leads (Inv (hand_over l)) s (sending x)
sends l s x j frames transport f t =
    let held : List (List ℕ) = s.transport.held in
    let pdu : List ℕ = transfer_pdu x.buffer in
    let reads : records_in pdu ≡ Ok (map record_of l.pending) =
    ap (λ (y : List Record). records_in (transfer_pdu y)) j.buffered.are ∙ records_written (map record_of l.pending) (well_records l.pending j.buffered.well) in
    subst (λ (y : Queue). Inv (hand_over l) (placed s (holding [] x) y transport)) (sym f)
    (record {
      phase = j.phase;
      mark = j.mark;
      selection = j.selection;
      framed = j.framed;
      buffered = emptied s.settings x.age;
      carried = record {
        are = ap (λ (y : List (List ℕ)). records_of (l.pdus ++ y)) t.held
            ∙ ap (λ (y : List (List ℕ)). records_of y) (sym (append_assoc l.pdus held (pdu ∷ [])))
            ∙ records_push (l.pdus ++ held) pdu (map record_of l.handed) (map record_of l.pending) j.carried.are reads
            ∙ ap {B = Option (List Record)} Some (sym (map-append record_of l.handed l.pending));
        well = All-append WellEntered l.handed l.pending j.carried.well j.buffered.well;
      };
      fitting = refit s.settings s.transport transport j.fitting t.largest t.lawful;
      lawful = lawful_hand l j.lawful;
    })

-- accepting a record changes nothing of the session but the production status
produces : (r : Record) (x : Session) → (v : ProductionStatus) × (produced r x ≡ producing v x)
produces (frame q t d) x = (x.production, refl)
produces (loss t) x = (x.production, refl)
produces (status v) x = (v, refl)
produces end_of_data x = (x.production, refl)

unbound_off : (reason : UnbindReason) → is_active (after_unbind reason) ≡ false
unbound_off End = refl
unbound_off Suspend = refl
unbound_off VersionNotSupported = refl
unbound_off Other = refl

pub empty_buffer : (rs : List Record) → is_filled rs ≡ false → length rs ≡ 0
empty_buffer [] h = refl
empty_buffer (r ∷ rs) h = absurd (true≢false h)

module _ (l : Ledger) (s : State) (i : Inv l s) where
  admits : (r : Record) → WellFormed r → is_accepted r ≡ true → Leads (Inv (accept r l)) s (admitting s.session r)
  admits r w a frames transport f t =
      let x : Acceptance = record { number = length l.received; value = r } in
      subst (λ (y : Queue). Inv (accept r l) (placed s (produced r s.session) frames y)) (sym t)
      (subst (λ (y : Session). Inv (accept r l) (placed s y frames s.transport)) (sym (produces r s.session).1)
      (record {
        phase = i.phase;
        mark = i.mark;
        selection = i.selection;
        framed = record {
          are = f.held ∙ ap (λ (y : List (List ℕ)). y ++ encode r ∷ []) i.framed.are ∙ sym (map_push octets_of l.untaken x);
          well = All-push WellAccepted l.untaken x i.framed.well (w, a);
        };
        buffered = i.buffered;
        carried = i.carried;
        fitting = i.fitting;
        lawful = lawful_accept r l i.lawful;
      }))

  collects : (pdu : List ℕ) (more : List (List ℕ)) → s.transport.held ≡ pdu ∷ more → Leads (Inv (set_pdus (l.pdus ++ pdu ∷ []) l)) s (collecting s.session pdu)
  collects pdu more e frames transport f t =
      let rest : more ≡ transport.held = ap {B = List (List ℕ)} (λ (y : List (List ℕ)). drop 1 y) (sym e ∙ t.held) in
      subst (λ (y : Queue). Inv (set_pdus (l.pdus ++ pdu ∷ []) l) (placed s s.session y transport)) (sym f)
      (record {
        phase = i.phase;
        mark = i.mark;
        selection = i.selection;
        framed = i.framed;
        buffered = i.buffered;
        carried = record {
          are = ap (λ (y : List (List ℕ)). records_of y)
              (append_assoc l.pdus (pdu ∷ []) transport.held ∙ ap (λ (y : List (List ℕ)). l.pdus ++ pdu ∷ y) (sym rest) ∙ ap (λ (y : List (List ℕ)). l.pdus ++ y) (sym e))
              ∙ i.carried.are;
          well = i.carried.well;
        };
        fitting = refit s.settings s.transport transport i.fitting t.largest t.lawful;
        lawful = lawful_pdu pdu l i.lawful;
      })

  phases : (p : Phase) → is_active p ≡ false → Inv (set_phase p l) (placed s (to_phase p s.session) s.frames s.transport)
  phases p off = record {
    phase = refl;
    mark = i.mark;
    selection = i.selection;
    framed = i.framed;
    buffered = i.buffered;
    carried = i.carried;
    fitting = i.fitting;
    lawful = lawful_phase p l off i.lawful;
  }

  begins : (c : Selection) → Inv (set_phase active (begin_run c l)) (placed s (to_phase active (selecting c s.session)) s.frames s.transport)
  begins c = record {
    phase = refl;
    mark = refl;
    selection = refl;
    framed = i.framed;
    buffered = i.buffered;
    carried = i.carried;
    fitting = i.fitting;
    lawful = lawful_begin c l i.lawful;
  }

  loses : Inv (lose_association l) (placed s (to_phase unbound (holding [] s.session)) s.frames s.transport)
  loses = record {
    phase = refl;
    mark = i.mark;
    selection = i.selection;
    framed = i.framed;
    buffered = emptied s.settings s.session.age;
    carried = i.carried;
    fitting = i.fitting;
    lawful = lawful_lose l i.lawful;
  }

  -- ticks
  ticked : (n : ℕ) → (n < s.settings.latency_limit → AllByRecursion (Within n) (map older l.pending)) → Inv (set_pending (map older l.pending) l) (placed s (aged n s.session) s.frames s.transport)
  ticked n h = record {
    phase = i.phase;
    mark = i.mark;
    selection = i.selection;
    framed = i.framed;
    buffered = record {
      are = i.buffered.are ∙ sym (records_older l.pending);
      well = well_older l.pending i.buffered.well;
      few = i.buffered.few;
      ages = h;
    };
    carried = i.carried;
    fitting = i.fitting;
    lawful = lawful_older l i.lawful;
  }

  pub counts : s.session.phase ≡ active → count_tick l ≡ set_pending (map older l.pending) l
  counts on = ap (λ (x : List Entry). set_pending x l) (cond-true (is_active l.phase) (map older l.pending) l.pending (ap is_active (sym i.phase ∙ on)))

  -- below the limit every entry has been there for at most age
  pub young : is_young s.settings s.session ≡ true → AllByRecursion (Within (suc s.session.age)) (map older l.pending)
  young h = let below = ltb-true (suc s.session.age) s.settings.latency_limit h in older_within s.session.age l.pending (i.buffered.ages (omega arith))

  at_limit : Inv (set_pending (map older l.pending) l) (placed s (aged s.settings.latency_limit s.session) s.frames s.transport)
  at_limit = ticked s.settings.latency_limit (λ k. absurd (omega arith))

  pub none_pending : is_filled s.session.buffer ≡ false → l.pending ≡ []
  none_pending h =
      nil_from_length l.pending
      (sym (length-map l.pending record_of) ∙ ap (λ (x : List Record). length x) (sym i.buffered.are) ∙ empty_buffer s.session.buffer h)

  quiet_tick : (is_active s.session.phase && is_filled s.session.buffer) ≡ false → Inv (count_tick l) s
  quiet_tick h = elim (and_cases (is_active s.session.phase) (is_filled s.session.buffer) h) [
    | inl off ↦ subst (λ (x : List Entry). Inv (set_pending x l) s) (sym (cond-false (is_active l.phase) (map older l.pending) l.pending (ap is_active (sym i.phase) ∙ off))) i
    | inr empty ↦
        let none : l.pending ≡ [] = none_pending empty in
        let same : map older l.pending ≡ l.pending = ap (λ (x : List Entry). map older x) none ∙ sym none in
        cond_both (is_active l.phase) (map older l.pending) l.pending (λ (x : List Entry). Inv (set_pending x l) s)
        (λ _. subst (λ (x : List Entry). Inv (set_pending x l) s) (sym same) i) (λ _. i)
  ]

  -- the oldest record, as a move finds it
  module _ (a : Acceptance) (more : List Acceptance) (u : l.untaken ≡ a ∷ more) (k : Looks s a.value) where
    well : AllByRecursion WellAccepted (a ∷ more)
    well = subst (λ (x : List Acceptance). AllByRecursion WellAccepted x) u i.framed.well

    dropped : (frames : Queue) → Dropped s.frames frames → Framed frames.held more
    dropped frames f = record {
      are = ap {B = List (List ℕ)} (λ (y : List (List ℕ)). drop 1 y) (sym f.held ∙ i.framed.are ∙ ap (λ (y : List Acceptance). map octets_of y) u);
      well = well.1;
    }

    unmarked : l.end_mark ≡ false
    unmarked = sym i.mark ∙ k.unmarked

    early : (b : Bool) → ends_run s.session a.value ≡ b → late l.run.selection a.value ≡ b
    early b h = ap (λ (x : Selection). late x a.value) (sym i.selection) ∙ h

    wanted : (b : Bool) → is_taken s.session a.value ≡ b → selected l.run.selection a.value ≡ b
    wanted b h = ap (λ (x : Selection). selected x a.value) (sym i.selection) ∙ h

    takes : ends_run s.session a.value ≡ false → is_taken s.session a.value ≡ true
        → Leads (Inv (took_oldest a more l)) s (taking s.session a.value)
    takes h w frames transport f t =
        subst (λ (x : Queue). Inv (took_oldest a more l) (placed s (entered a.value s.session) frames x)) (sym t)
        (record {
          phase = i.phase;
          mark = i.mark;
          selection = i.selection;
          framed = dropped frames f;
          buffered = enter s.settings s.session.buffer s.session.age l.pending (entry l (Some a)) i.buffered refl (well.0, tt) k.space;
          carried = i.carried;
          fitting = i.fitting;
          lawful = lawful_take l a more u i.lawful unmarked (early false h) (wanted true w);
        })

    passes : ends_run s.session a.value ≡ false → is_taken s.session a.value ≡ false → Leads (Inv (passed_oldest a more l)) s (passing s.session)
    passes h w frames transport f t =
        subst (λ (x : Queue). Inv (passed_oldest a more l) (placed s s.session frames x)) (sym t)
        (record {
          phase = i.phase;
          mark = i.mark;
          selection = i.selection;
          framed = dropped frames f;
          buffered = i.buffered;
          carried = i.carried;
          fitting = i.fitting;
          lawful = lawful_pass l a more u i.lawful unmarked (early false h) (wanted false w);
        })

    ends : ends_run s.session a.value ≡ true → Inv (end_run l) (placed s (marked (entered end_of_data s.session)) s.frames s.transport)
    ends h = record {
      phase = i.phase;
      mark = refl;
      selection = i.selection;
      framed = i.framed;
      buffered = enter s.settings s.session.buffer s.session.age l.pending (entry l None) i.buffered refl tt k.space;
      carried = i.carried;
      fitting = i.fitting;
      lawful = lawful_end l a more u i.lawful (early true h);
    }

  -- the record that a move looks at is the oldest untaken
  oldest_of : (r : Record) → Looks s r → (us : List Acceptance) → l.untaken ≡ us → oldest (map octets_of us) ≡ Some r
  oldest_of r k us u = ap (λ (x : List Acceptance). oldest (map octets_of x)) (sym u) ∙ ap (λ (x : List (List ℕ)). oldest x) (sym i.framed.are) ∙ k.oldest_is

  pub looked : (P : Record → Type 0) → ((a : Acceptance) (more : List Acceptance) → l.untaken ≡ a ∷ more → Looks s a.value → P a.value)
      → (r : Record) → Looks s r → (us : List Acceptance) → l.untaken ≡ us → P r
  looked P p r k [] u = let e = oldest_of r k [] u in cc
  looked P p r k (a ∷ more) u =
      let back = one_record_written a.value (subst (λ (x : List Acceptance). AllByRecursion WellAccepted x) u i.framed.well).0.0 in
      let e = oldest_of r k (a ∷ more) u in
      let same : a.value ≡ r = cc in
      subst (λ (x : Record). Looks s x → P x) same (λ k'. p a more u k') k

  step_reception : {c : Call} {o : Outcome} {f : Change} → Receives s c o f → Leads (Inv (f l)) s o
  step_reception (does.turns_away n) = keeping (Inv l) s s.session (refused n) i
  step_reception (does.accepts r e w a) = admits r w a

  step_collection : {o : Outcome} {f : Change} → Collects s o f → Leads (Inv (f l)) s o
  step_collection (does.leaves n) = keeping (Inv l) s s.session (refused n) i
  step_collection (does.collects pdu more e) = collects pdu more e

  step_move : {o : Outcome} {f : Change} → Moves s o f → Leads (Inv (f l)) s o
  step_move (does.when_not_active h) = keeping (Inv l) s s.session idle i
  step_move (does.at_end h) = keeping (Inv l) s s.session idle i
  step_move (does.no_record h) = keeping (Inv l) s s.session idle i
  step_move (Moves.sends h) = sends l s s.session i
  step_move (Moves.waits h k) = keeping (Inv l) s s.session waiting i
  step_move (does.ends r k h) =
      looked (λ x. ends_run s.session x ≡ true → Leads (Inv (end_run l)) s (ending s.session))
      (λ a more u k' h'. keeping (Inv (end_run l)) s (marked (entered end_of_data s.session)) ended (ends a more u k' h')) r k l.untaken refl h
  step_move (does.takes r k h w) =
      looked (λ x. ends_run s.session x ≡ false → is_taken s.session x ≡ true → Leads (Inv (take_oldest l)) s (taking s.session x))
      (λ a more u k' h' w'. subst (λ (x : Ledger). Leads (Inv x) s (taking s.session a.value)) (sym (takes_oldest l a more u)) (takes a more u k' h' w'))
      r k l.untaken refl h w
  step_move (does.passes r k h w) =
      looked (λ x. ends_run s.session x ≡ false → is_taken s.session x ≡ false → Leads (Inv (pass_oldest l)) s (passing s.session))
      (λ a more u k' h' w'. subst (λ (x : Ledger). Leads (Inv x) s (passing s.session)) (sym (passes_oldest l a more u)) (passes a more u k' h' w'))
      r k l.untaken refl h w

  step_tick : {o : Outcome} {f : Change} → Ticks s o f → Leads (Inv (f l)) s o
  step_tick (does.rests h) = keeping (Inv (count_tick l)) s s.session quiet (quiet_tick h)
  step_tick (does.grows_older a h) =
      let n : ℕ = suc s.session.age in
      subst (λ (x : Ledger). Leads (Inv x) s (says (aged n s.session) quiet)) (sym (counts a.on))
      (keeping (Inv (set_pending (map older l.pending) l)) s (aged n s.session) quiet (ticked n (λ _. young h)))
  step_tick (Ticks.sends a) =
      let x : Session = aged s.settings.latency_limit s.session in
      subst (λ (y : Ledger). Leads (Inv (hand_over y)) s (sending x)) (sym (counts a.on)) (sends (set_pending (map older l.pending) l) s x at_limit)
  step_tick (Ticks.waits a h) =
      let x : Session = aged s.settings.latency_limit s.session in
      subst (λ (y : Ledger). Leads (Inv y) s (says x waiting)) (sym (counts a.on)) (keeping (Inv (set_pending (map older l.pending) l)) s x waiting at_limit)

  step_invocation : {octets : List ℕ} {o : Outcome} {f : Change} → Invokes s octets o f → Leads (Inv (f l)) s o
  step_invocation (does.refused_by n) = keeping (Inv l) s s.session (refused n) i
  step_invocation (does.starts id q from until r e) = keeping (Inv (set_phase active (begin_run (selection_of q from until) l))) s (to_phase active (selecting (selection_of q from until) s.session)) (start_done id) (begins (selection_of q from until))
  step_invocation (does.stops id r e) = keeping (Inv (set_phase ready l)) s (to_phase ready s.session) (stop_done id) (phases ready refl)
  step_invocation (does.binds id version identifier r e) = keeping (Inv (set_phase ready l)) s (to_phase ready s.session) (bind_done id s.settings.version) (phases ready refl)
  step_invocation (does.unbinds id reason r e) = keeping (Inv (set_phase (after_unbind reason) l)) s (to_phase (after_unbind reason) s.session) (unbind_done id) (phases (after_unbind reason) (unbound_off reason))
  step_invocation (does.aborts diagnostic r b) = keeping (Inv (lose_association l)) s (to_phase unbound (holding [] s.session)) (abort_done (lost s.session)) loses
  step_invocation (does.errs request r e) = keeping (Inv (lose_association l)) s (to_phase unbound (holding [] s.session)) (protocol_error (lost s.session)) loses
  step_invocation (does.misreads fault r b) = keeping (Inv (lose_association l)) s (to_phase unbound (holding [] s.session)) (undecodable fault (lost s.session)) loses
  step_invocation (does.misreads_unbound fault e) = keeping (Inv l) s s.session (undecodable fault 0) i

  pub steps : {c : Call} {o : Outcome} {f : Change} → Does s c o f → Leads (Inv (f l)) s o
  steps (does.receiving w r) = step_reception r
  steps (does.moving m) = step_move m
  steps (does.ticking t) = step_tick t
  steps (does.collecting_by n c) = step_collection c
  steps (does.invoking octets v) = step_invocation v
