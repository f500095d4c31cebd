-- Everything that a call can come to, with what must hold for it and what it does to a ledger: one case for each, so that a law of all calls is proved case by case.
use Rattle.std.proofs.Common.{◌≡◌, ℕ, zero, suc, Bool, true, false, cond, ◌&&◌, eqb, leb, List, [], ◌∷◌, ◌++◌, length, Some, None, Ok, Err, Option, Result, sym, refl, ap, ◌∙◌, subst, subst₂, arith}
use Rattle.std.proofs.lemmas.Bool.{cond_both, and_parts, or_parts, both_ways, eqb-false, leb-true}
use Rattle.std.proofs.lemmas.List.{take_all, drop_all}
use Rattle.std.specs.Str.{bytes_eq}
use Rattle.codec.specs.declared.fault.Fault.{Fault}
use Rattle.codec.specs.declared.record.Quality.{Quality}
use Rattle.codec.specs.declared.record.ProductionStatus.{ProductionStatus}
use Rattle.codec.specs.declared.invocation.RequestedQuality.{RequestedQuality}
use Rattle.codec.specs.declared.invocation.UnbindReason.{UnbindReason}
use Rattle.codec.specs.Times.{Stamp}
use Rattle.codec.specs.Records.{Record, frame, loss, status, end_of_data, encode, WellFormed}
use Rattle.codec.specs.RecordReading.{quality_of, status_of}
use Rattle.codec.specs.Invocations.{Request, start, stop, bind, unbind, abort}
use Rattle.codec.specs.InvocationReading.{request_in}
use Rattle.histories.specs.Queues.{Queue, keep, add}
use Rattle.histories.specs.Sessions.{Phase, unbound, ready, active, closed, is_active, empty_span, Session, to_phase, aged, holding, selecting}
use Rattle.histories.specs.Calls.{Call, acquire, note, move, tick, collect, invoke, argument, as_frame, as_status, as_note, accepted, idle, waiting, sent, quiet, start_done, bind_done, undecodable, protocol_error, Outcome, says, refuses}
use Rattle.histories.specs.Delivery.{is_young, collecting, transfer_pdu, send_first, send, is_filled, tick_by, collect_by}
use Rattle.histories.specs.Invocations.{cell_protocol_error, after_unbind, table, is_accepted, discard, bind_by, is_halted, start_by, selection_of, performed, by_cell, by_fault, by_reading, invoke_by}
use Rattle.histories.specs.Provider.{State, ends_run, is_taken, is_timely, has_data, produced, admit, receive, receive_by, oldest, ending, taking, passing, move_record, must_send, move_by, outcome}
use Rattle.histories.specs.Ledger.{Event, Ledger, accept, take_oldest, pass_oldest, end_run, count_tick, hand_over, begin_run, set_phase, set_pdus, lose_association, lose_if_bound, enter_phase, follow_reading, perform_request, on_call, accept_argument, step}

abbrev pub admitting : Session → Record → Outcome
admitting s r = record { answer = accepted; copied = []; session = produced r s; on_frames = add (encode r); on_transport = keep }

-- the whole transfer buffer is sent
abbrev pub sending : Session → Outcome
sending s = record { answer = sent; copied = []; session = holding [] s; on_frames = keep; on_transport = add (transfer_pdu s.buffer) }

-- what a call does to a ledger
abbrev pub Change : Type 0
Change = Ledger → Ledger

abbrev pub unchanged : Change
unchanged l = l

-- an acquisition or a note
pub data Reception : Call → Type 0 where
  acquisition : (q : ℕ) (t : Stamp) (d : List ℕ) → Reception (acquire q t d)
  noting : (type : ℕ) (t : Stamp) (v : ℕ) → Reception (note type t v)

pub data Receives (s : State) (c : Call) : Outcome → Change → Type 0 where
  turns_away : (n : ℕ) → Receives s c (refuses s.session n) unchanged
  accepts : (r : Record) → argument c ≡ Some r → WellFormed r → is_accepted r ≡ true → Receives s c (admitting s.session r) (accept r)

-- a move that looks at the oldest record
pub record Looks (s : State) (r : Record) : Type 0 where
  pub on : s.session.phase ≡ active
  pub unmarked : s.session.end_mark ≡ false
  pub space : length s.session.buffer ≡ s.settings.buffer_size → ⊥
  pub oldest_is : oldest s.frames.held ≡ Some r

pub data Moves (s : State) : Outcome → Change → Type 0 where
  when_not_active : is_active s.session.phase ≡ false → Moves s (says s.session idle) unchanged
  at_end : s.session.end_mark ≡ true → Moves s (says s.session idle) unchanged
  no_record : oldest s.frames.held ≡ None → Moves s (says s.session idle) unchanged
  sends : must_send s.settings s.session ≡ true → Moves s (sending s.session) hand_over
  waits : must_send s.settings s.session ≡ true → s.transport.room (length (transfer_pdu s.session.buffer)) ≡ false → Moves s (says s.session waiting) unchanged
  ends : (r : Record) → Looks s r → ends_run s.session r ≡ true → Moves s (ending s.session) end_run
  takes : (r : Record) → Looks s r → ends_run s.session r ≡ false → is_taken s.session r ≡ true → Moves s (taking s.session r) take_oldest
  passes : (r : Record) → Looks s r → ends_run s.session r ≡ false → is_taken s.session r ≡ false → Moves s (passing s.session) pass_oldest

-- a tick that finds records to age
pub record Ages (s : State) : Type 0 where
  pub on : s.session.phase ≡ active
  pub filled : is_filled s.session.buffer ≡ true

pub data Ticks (s : State) : Outcome → Change → Type 0 where
  rests : (is_active s.session.phase && is_filled s.session.buffer) ≡ false → Ticks s (says s.session quiet) count_tick
  grows_older : Ages s → is_young s.settings s.session ≡ true → Ticks s (says (aged (suc s.session.age) s.session) quiet) count_tick
  sends : Ages s → Ticks s (sending (aged s.settings.latency_limit s.session)) (λ l. hand_over (count_tick l))
  waits : Ages s → s.transport.room (length (transfer_pdu s.session.buffer)) ≡ false → Ticks s (says (aged s.settings.latency_limit s.session) waiting) count_tick

pub data Collects (s : State) : Outcome → Change → Type 0 where
  leaves : (n : ℕ) → Collects s (refuses s.session n) unchanged
  collects : (pdu : List ℕ) (more : List (List ℕ)) → s.transport.held ≡ pdu ∷ more → Collects s (collecting s.session pdu) (λ l. set_pdus (l.pdus ++ pdu ∷ []) l)

pub data Bound : Phase → Type 0 where
  when_ready : Bound ready
  when_active : Bound active

pub data Invokes (s : State) (octets : List ℕ) : Outcome → Change → Type 0 where
  refused_by : (n : ℕ) → Invokes s octets (refuses s.session n) unchanged
  starts : (id : ℕ) (q : RequestedQuality) (from until : Option Stamp) → request_in octets ≡ Ok (start id q from until) → s.session.phase ≡ ready
      → Invokes s octets (says (to_phase active (selecting (selection_of q from until) s.session)) (start_done id)) (λ l. set_phase active (begin_run (selection_of q from until) l))
  stops : (id : ℕ) → request_in octets ≡ Ok (stop id) → s.session.phase ≡ active → Invokes s octets (performed s.settings s.session ready (stop id)) (set_phase ready)
  binds : (id version : ℕ) (identifier : List ℕ) → request_in octets ≡ Ok (bind id version identifier) → s.session.phase ≡ unbound
      → Invokes s octets (says (to_phase ready s.session) (bind_done id s.settings.version)) (set_phase ready)
  unbinds : (id : ℕ) (reason : UnbindReason) → request_in octets ≡ Ok (unbind id reason) → s.session.phase ≡ ready
      → Invokes s octets (performed s.settings s.session (after_unbind reason) (unbind id reason)) (set_phase (after_unbind reason))
  aborts : (diagnostic : ℕ) → request_in octets ≡ Ok (abort diagnostic) → Bound s.session.phase → Invokes s octets (performed s.settings s.session unbound (abort diagnostic)) lose_association
  errs : (request : Request) → request_in octets ≡ Ok request → table s.session.phase request ≡ cell_protocol_error → Invokes s octets (discard s.session protocol_error) lose_association
  misreads : (fault : Fault) → request_in octets ≡ Err fault → Bound s.session.phase → Invokes s octets (discard s.session (undecodable fault)) lose_association
  misreads_unbound : (fault : Fault) → s.session.phase ≡ unbound → Invokes s octets (says s.session (undecodable fault 0)) unchanged

pub data Does (s : State) : Call → Outcome → Change → Type 0 where
  receiving : {c : Call} {o : Outcome} {f : Change} → Reception c → Receives s c o f → Does s c o f
  moving : {o : Outcome} {f : Change} → Moves s o f → Does s move o f
  ticking : {o : Outcome} {f : Change} → Ticks s o f → Does s tick o f
  collecting_by : {o : Outcome} {f : Change} (n : ℕ) → Collects s o f → Does s (collect n) o f
  invoking : {o : Outcome} {f : Change} (octets : List ℕ) → Invokes s octets o f → Does s (invoke octets) o f

-- Each call comes to one of these.

abbrev pub ComesBy : (Outcome → Change → Type 0) → Outcome → Type 0
ComesBy R o = (f : Change) × R o f

abbrev pub Comes : State → Call → Outcome → Type 0
Comes s c o = ComesBy (Does s c) o

pub is_on : (p : Phase) → is_active p ≡ true → p ≡ active
is_on unbound e = absurd (both_ways true (sym e) refl)
is_on ready e = absurd (both_ways true (sym e) refl)
is_on active e = refl
is_on closed e = absurd (both_ways true (sym e) refl)

-- to send all records is to send the whole transfer buffer
pub send_ways : (P : Outcome → Type 0) (s : Session) (t : Queue) → P (sending s) → (t.room (length (transfer_pdu s.buffer)) ≡ false → P (says s waiting)) → P (send s t)
unfolding send_first
send_ways P s t room none =
    let n : ℕ = length s.buffer in
    subst₂
    (λ (xs ys : List Record).
    P (cond (t.room (length (transfer_pdu xs))) (record { answer = sent; copied = []; session = holding ys s; on_frames = keep; on_transport = add (transfer_pdu xs) }) (says s waiting)))
    (sym (take_all n s.buffer (omega arith))) (sym (drop_all n s.buffer (omega arith)))
    (cond_both (t.room (length (transfer_pdu s.buffer))) _ _ P (λ _. room) none)

well_formed : (r : Record) → is_timely r ≡ true → has_data r ≡ true → WellFormed r
well_formed (frame q t d) h k = let both = and_parts (leb 1 (length d)) _ k in (h, leb-true 1 (length d) both.0, leb-true (length d) _ both.1)
well_formed (loss t) h k = h
well_formed (status v) h k = tt
well_formed end_of_data h k = tt

frame_accepted : (q : Option Quality) (t : Stamp) (d : List ℕ) (r : Record) → as_frame q t d ≡ Some r → is_accepted r ≡ true
frame_accepted None t d r e = cc
frame_accepted (Some q) t d r e = let same-record : frame q t d ≡ r = cc in ap (λ (x : Record). is_accepted x) (sym same-record)

status_accepted : (v : Option ProductionStatus) (r : Record) → as_status v ≡ Some r → is_accepted r ≡ true
status_accepted None r e = cc
status_accepted (Some v) r e = let same-record : status v ≡ r = cc in ap (λ (x : Record). is_accepted x) (sym same-record)

note_accepted : (type : ℕ) (t : Stamp) (v : ℕ) (r : Record) → as_note type t v ≡ Some r → is_accepted r ≡ true
note_accepted zero t v r e = let same-record : loss t ≡ r = cc in ap (λ (x : Record). is_accepted x) (sym same-record)
note_accepted (suc zero) t v r e = status_accepted (status_of v) r e
note_accepted (suc (suc type)) t v r e = cc

module _ (s : State) where
  receives : (c : Call) (n : ℕ) → ((r : Record) → argument c ≡ Some r → is_accepted r ≡ true) → ComesBy (Receives s c) (receive_by s.session s.frames n (argument c))
  unfolding receive_by admit
  receives c n ok = cond_both _ _ _ (ComesBy (Receives s c)) (λ _. refuse 4) (λ _. go (argument c) refl)
    where
      refuse : (n : ℕ) → ComesBy (Receives s c) (refuses s.session n)
      refuse n = (unchanged, turns_away n)

      go : (a : Option Record) → argument c ≡ a → ComesBy (Receives s c) (receive s.session s.frames n a)
      go None e = refuse n
      go (Some r) e =
          cond_both _ _ _ (ComesBy (Receives s c))
          (λ timely. cond_both _ _ _ (ComesBy (Receives s c))
          (λ filled. cond_both _ _ _ (ComesBy (Receives s c))
          (λ _. (accept r, accepts r e (well_formed r timely filled) (ok r e)))
          (λ _. refuse 13)) (λ _. refuse 12)) (λ _. refuse 11)

  looks : s.session.phase ≡ active → s.session.end_mark ≡ false → (length s.session.buffer ≡ s.settings.buffer_size → ⊥) → (r : Option Record) → oldest s.frames.held ≡ r
      → ComesBy (Moves s) (move_record s.session r)
  unfolding move_record
  looks on unmarked space None e = (unchanged, no_record e)
  looks on unmarked space (Some r) e =
      let l : Looks s r = record { on = on; unmarked = unmarked; space = space; oldest_is = e } in
      cond_both _ _ _ (ComesBy (Moves s)) (λ h. (end_run, ends r l h))
      (λ h. cond_both _ _ _ (ComesBy (Moves s)) (λ w. (take_oldest, takes r l h w)) (λ w. (pass_oldest, passes r l h w)))

  pub moves : ComesBy (Moves s) (move_by s)
  unfolding move_by
  moves =
      let full : Bool = eqb (length s.session.buffer) s.settings.buffer_size in
      cond_both _ _ _ (ComesBy (Moves s))
      (λ on. cond_both _ _ _ (ComesBy (Moves s))
      (λ must. send_ways (ComesBy (Moves s)) s.session s.transport (hand_over, Moves.sends must) (λ none. (unchanged, Moves.waits must none)))
      (λ rest. cond_both _ _ _ (ComesBy (Moves s)) (λ e. (unchanged, at_end e))
      (λ unmarked. looks (is_on s.session.phase on) unmarked (eqb-false (length s.session.buffer) s.settings.buffer_size (or_parts full _ rest).0) (oldest s.frames.held) refl)))
      (λ off. (unchanged, when_not_active off))

  pub ticks : ComesBy (Ticks s) (tick_by s.settings s.session s.transport)
  unfolding tick_by
  ticks =
      let on : Bool = is_active s.session.phase in
      let filled : Bool = is_filled s.session.buffer in
      cond_both _ _ _ (ComesBy (Ticks s))
      (λ h. let both = and_parts on filled h in
      let ages : Ages s = record { on = is_on s.session.phase both.0; filled = both.1 } in
      cond_both _ _ _ (ComesBy (Ticks s))
      (λ k. (count_tick, grows_older ages k))
      (λ _. send_ways (ComesBy (Ticks s)) (aged s.settings.latency_limit s.session) s.transport
      ((λ l. hand_over (count_tick l)), Ticks.sends ages) (λ none. (count_tick, Ticks.waits ages none))))
      (λ h. (count_tick, rests h))

  collections : (n : ℕ) (h : List (List ℕ)) → s.transport.held ≡ h → ComesBy (Collects s) (collect_by s.session n h)
  unfolding collect_by
  collections n [] e = (unchanged, leaves 30)
  collections n (pdu ∷ more) e = cond_both _ _ _ (ComesBy (Collects s)) (λ _. ((λ l. set_pdus (l.pdus ++ pdu ∷ []) l), collects pdu more e)) (λ _. (unchanged, leaves 34))

  pub collects_some : (n : ℕ) → ComesBy (Collects s) (collect_by s.session n s.transport.held)
  collects_some n = collections n s.transport.held refl

  module _ (octets : List ℕ) where
    abbrev ComesTo : Outcome → Type 0
    ComesTo o = ComesBy (Invokes s octets) o

    refuse : (n : ℕ) → ComesTo (refuses s.session n)
    refuse n = (unchanged, refused_by n)

    wrong : (p : Phase) (request : Request) → request_in octets ≡ Ok request → s.session.phase ≡ p → table p request ≡ cell_protocol_error → ComesTo (discard s.session protocol_error)
    wrong p request r e t = (lose_association, errs request r (ap (λ (x : Phase). table x request) e ∙ t))

    bound : (p : Phase) → Bound p → s.session.phase ≡ p → Bound s.session.phase
    bound p b e = subst (λ (x : Phase). Bound x) (sym e) b

    by_table : (p : Phase) → s.session.phase ≡ p → (request : Request) → request_in octets ≡ Ok request → ComesTo (by_cell s.settings s.session request (table p request))
    unfolding table start_by bind_by
    by_table unbound e (start id q from until) r = refuse 26
    by_table unbound e (stop id) r = refuse 26
    by_table unbound e (bind id version identifier) r =
        cond_both (bytes_eq identifier s.settings.identifier) _ _ ComesTo
        (λ _. cond_both (leb s.settings.version version) _ _ ComesTo (λ _. (set_phase ready, binds id version identifier r e)) (λ _. refuse 23)) (λ _. refuse 22)
    by_table unbound e (unbind id reason) r = refuse 26
    by_table unbound e (abort diagnostic) r = refuse 26
    by_table ready e (start id q from until) r =
        cond_both (is_halted s.session.production) _ _ ComesTo (λ _. refuse 25)
        (λ _. cond_both (empty_span from until) _ _ ComesTo (λ _. refuse 24)
        (λ _. ((λ l. set_phase active (begin_run (selection_of q from until) l)), starts id q from until r e)))
    by_table ready e (stop id) r = wrong ready (stop id) r e refl
    by_table ready e (bind id version identifier) r = wrong ready (bind id version identifier) r e refl
    by_table ready e (unbind id reason) r = (set_phase (after_unbind reason), unbinds id reason r e)
    by_table ready e (abort diagnostic) r = (lose_association, aborts diagnostic r (bound ready when_ready e))
    by_table active e (start id q from until) r = wrong active (start id q from until) r e refl
    by_table active e (stop id) r = (set_phase ready, stops id r e)
    by_table active e (bind id version identifier) r = wrong active (bind id version identifier) r e refl
    by_table active e (unbind id reason) r = wrong active (unbind id reason) r e refl
    by_table active e (abort diagnostic) r = (lose_association, aborts diagnostic r (bound active when_active e))
    by_table closed e request r = refuse 4

    by_fault_lem : (p : Phase) → s.session.phase ≡ p → (fault : Fault) → request_in octets ≡ Err fault → ComesTo (by_fault s.session p fault)
    by_fault_lem unbound e fault r = (unchanged, misreads_unbound fault e)
    by_fault_lem ready e fault r = (lose_association, misreads fault r (bound ready when_ready e))
    by_fault_lem active e fault r = (lose_association, misreads fault r (bound active when_active e))
    by_fault_lem closed e fault r = refuse 4

    by_reading_lem : (reading : Result Request Fault) → request_in octets ≡ reading → ComesTo (by_reading s.settings s.session reading)
    by_reading_lem (Ok request) r = by_table s.session.phase refl request r
    by_reading_lem (Err fault) r = by_fault_lem s.session.phase refl fault r

    invokes : Comes s (invoke octets) (invoke_by s.settings s.session octets)
    unfolding invoke_by
    invokes = let i = by_reading_lem (request_in octets) refl in (i.0, invoking octets i.1)

  pub does : (c : Call) → Comes s c (outcome s c)
  does (acquire q t d) = let r = receives (acquire q t d) 10 (λ r e. frame_accepted (quality_of q) t d r e) in (r.0, receiving (acquisition q t d) r.1)
  does (note type t v) = let r = receives (note type t v) 14 (λ r e. note_accepted type t v r e) in (r.0, receiving (noting type t v) r.1)
  does move = (moves.0, moving moves.1)
  does tick = (ticks.0, ticking ticks.1)
  does (collect n) = ((collects_some n).0, collecting_by n (collects_some n).1)
  does (invoke octets) = invokes octets

-- A ledger that knows the phase books what a call comes to.

abbrev pub event : Call → Outcome → Event
event c o = record { call = c; answer = o.answer; copied = o.copied }

module _ (s : State) (l : Ledger) (known : l.phase ≡ s.session.phase) where
  -- an accepted invocation, by its operation and the phase
  follows : (octets : List ℕ) (request : Request) (p : Phase) → request_in octets ≡ Ok request → s.session.phase ≡ p
      → follow_reading (request_in octets) l ≡ enter_phase (table p request) (perform_request request l)
  follows octets request p r e =
      ap (λ (x : Result Request Fault). follow_reading x l) r
      ∙ ap (λ (x : Phase). enter_phase (table x request) (perform_request request l)) (known ∙ e)

  follows_abort : (octets : List ℕ) (diagnostic : ℕ) {p : Phase} → request_in octets ≡ Ok (abort diagnostic) → s.session.phase ≡ p → Bound p → follow_reading (request_in octets) l ≡ lose_association l
  unfolding table
  follows_abort octets diagnostic r e when_ready = follows octets (abort diagnostic) ready r e
  follows_abort octets diagnostic r e when_active = follows octets (abort diagnostic) active r e

  follows_misread : {p : Phase} → s.session.phase ≡ p → Bound p → lose_if_bound l.phase l ≡ lose_association l
  follows_misread e when_ready = ap (λ (x : Phase). lose_if_bound x l) (known ∙ e)
  follows_misread e when_active = ap (λ (x : Phase). lose_if_bound x l) (known ∙ e)

  books_invocation : {octets : List ℕ} {o : Outcome} {f : Change} → Invokes s octets o f → step l (event (invoke octets) o) ≡ f l
  unfolding table
  books_invocation (refused_by n) = refl
  books_invocation {octets} (starts id q from until r e) = follows octets (start id q from until) ready r e
  books_invocation {octets} (stops id r e) = follows octets (stop id) active r e
  books_invocation {octets} (binds id version identifier r e) = follows octets (bind id version identifier) unbound r e
  books_invocation {octets} (unbinds id reason r e) = follows octets (unbind id reason) ready r e
  books_invocation {octets} (aborts diagnostic r b) = follows_abort octets diagnostic r refl b
  books_invocation (errs request r e) = refl
  books_invocation (misreads fault r b) = follows_misread refl b
  books_invocation (misreads_unbound fault e) = ap (λ (x : Phase). lose_if_bound x l) (known ∙ e)

  -- neither does anything to a ledger by itself
  reception : {c : Call} → Reception c → on_call c l ≡ l
  reception (acquisition q t d) = refl
  reception (noting type t v) = refl

  books_reception : {c : Call} → Reception c → {o : Outcome} {f : Change} → Receives s c o f → step l (event c o) ≡ f l
  books_reception w (turns_away n) = reception w
  books_reception {c} w (accepts r e well ok) = ap (λ (x : Ledger). accept_argument (argument c) x) (reception w) ∙ ap (λ (x : Option Record). accept_argument x l) e

  books_collection : (n : ℕ) {o : Outcome} {f : Change} → Collects s o f → step l (event (collect n) o) ≡ f l
  books_collection n (leaves k) = refl
  books_collection n (collects pdu more e) = refl

  books_move : {o : Outcome} {f : Change} → Moves s o f → step l (event move o) ≡ f l
  books_move (when_not_active h) = refl
  books_move (at_end h) = refl
  books_move (no_record h) = refl
  books_move (Moves.sends h) = refl
  books_move (Moves.waits h k) = refl
  books_move (ends r k h) = refl
  books_move (takes r k h w) = refl
  books_move (passes r k h w) = refl

  pub books_tick : {o : Outcome} {f : Change} → Ticks s o f → step l (event tick o) ≡ f l
  books_tick (rests h) = refl
  books_tick (grows_older a h) = refl
  books_tick (Ticks.sends a) = refl
  books_tick (Ticks.waits a h) = refl

  pub books : {c : Call} {o : Outcome} {f : Change} → Does s c o f → step l (event c o) ≡ f l
  books (receiving w r) = books_reception w r
  books (moving m) = books_move m
  books (ticking t) = books_tick t
  books (collecting_by n c) = books_collection n c
  books (invoking octets i) = books_invocation i
