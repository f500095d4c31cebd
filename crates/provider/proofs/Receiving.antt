-- What putting a record into the frame buffer comes to.
use Rattle.std.proofs.Common.{◌≡◌, ℕ, ◌+◌, ◌≤◌, Bool, true, false, cond, leb, List, [], length, take, drop, Some, None, Ok, Err, Option, Result, sym, refl, ap, ◌∙◌, subst, arith}
use Rattle.std.proofs.lemmas.List.{take_at}
use Rattle.std.proofs.lemmas.Bool.Decides.{nat_tests}
use Rattle.std.proofs.lemmas.Bool.{and_parts, leb-true, le-leb}
use Rattle.codec.specs.Limits.{longest_record, data_limit}
use Rattle.codec.specs.Times.{Stamp, stamp, stamp_or, timely, checked_stamp}
use Rattle.codec.specs.declared.time.Time.{Time}
use Rattle.codec.specs.declared.time.TimeField.{TimeField}
use Rattle.codec.specs.OctetValues.{known}
use Rattle.codec.specs.declared.octet_value.UnknownOctet.{UnknownOctet}
use Rattle.codec.specs.declared.record.Quality.{Quality}
use Rattle.codec.specs.declared.record.ProductionStatus.{ProductionStatus}
use Rattle.codec.proofs.RecordsWritten.{frame_length, loss_length, status_length, end_length}
use Rattle.codec.specs.declared.record.Notification.{Notification}
use Rattle.codec.specs.declared.record.Notification.TheVariants.{LossOfFrameSynchronization, ProductionStatusChange, EndOfData}
use Rattle.codec.specs.Records.{Record, frame, notified, encode, writable, write_answer, buffer_after, data_length_allowed}
use Rattle.codec.specs.declared.record.WriteRefusal.{WriteRefusal}
use Rattle.codec.specs.declared.record.WriteRefusal.TheVariants.{DataLength, BufferTooShort}
use Rattle.histories.specs.Queues.{Queue, Added, keep, add}
use Rattle.histories.specs.Sessions.{Session, is_closed}
use Rattle.histories.specs.Calls.{Answer, Outcome, refuses, refused, accepted, as_note}
use Rattle.histories.specs.Provider.{State, is_timely, has_data, produced, admit, receive, receive_by}
use Rattle.provider.specs.States.{Leads, offering}
use Rattle.provider.proofs.Refusing.{Refusing, refusing_ok}
use Rattle.provider.proofs.Sending.{leads_by}

module _ (s : Session) (frames : Queue) (r : Record) where
  pub admits : frames.room (length (encode r)) ≡ true → admit s frames r ≡ record { answer = accepted; copied = []; session = produced r s; on_frames = add (encode r); on_transport = keep }
  unfolding admit
  admits e = rw e

  pub full : frames.room (length (encode r)) ≡ false → admit s frames r ≡ refuses s 13
  unfolding admit
  full e = rw e

  pub receives : (n : ℕ) → is_timely r ≡ true → has_data r ≡ true → receive s frames n (Some r) ≡ admit s frames r
  receives n a b = rw (a, b)

  pub no_data_lem : (n : ℕ) → is_timely r ≡ true → has_data r ≡ false → receive s frames n (Some r) ≡ refuses s 12
  no_data_lem n a b = rw (a, b)

  pub untimely : (n : ℕ) → is_timely r ≡ false → receive s frames n (Some r) ≡ refuses s 11
  untimely n a = rw a

two_tests : (a b : Bool) (m n : ℕ) → Ok n ≡ cond a (cond b (Ok m) (Err BufferTooShort)) (Err DataLength) → (a ≡ true) × (n ≡ m)
two_tests a b m n e = grind arith

-- a record that was written stands at the front of the buffer
pub written_front : {D : Type 0} (d : D) (r : Record) (out out' : List ℕ) (a : Result ℕ WriteRefusal) (a' : Result ℕ D) (n : ℕ) → Refusing d a a' → a' ≡ Ok n
    → a ≡ write_answer (length out) r → out' ≡ buffer_after out r a → (writable r ≡ true) × (take n out' ≡ encode r)
written_front d r out out' a a' n told made answered after =
    let is = refusing_ok d a a' n told made in
    let t = two_tests (writable r) (leb (length (encode r)) (length out)) (length (encode r)) n (sym is ∙ answered) in
    (t.0, ap (take n) (after ∙ ap (buffer_after out r) is) ∙ take_at (encode r) (drop n out) n (sym t.1))

failed_tests : (a b : Bool) (m : ℕ) (e : WriteRefusal) → Err e ≡ cond a (cond b (Ok m) (Err BufferTooShort)) (Err DataLength) → b ≡ true → a ≡ false
failed_tests a b m e f is = grind arith

-- a buffer that holds the record, if its data have an allowed length, refuses a frame only for its data's length
pub not_written : (q : Quality) (t : Stamp) (d out : List ℕ) (e : WriteRefusal) → Err e ≡ write_answer (length out) (frame q t d) → (length d ≤ data_limit → length d + 13 ≤ length out) → data_length_allowed (length d) ≡ false
not_written q t d out e answered size = by (data_length_allowed (length d)) refl
  where
    by : (b : Bool) → data_length_allowed (length d) ≡ b → data_length_allowed (length d) ≡ false
    by false is = is
    by true is =
        let few = leb-true (length d) data_limit (and_parts (leb 1 (length d)) (leb (length d) data_limit) is).1 in
        let fits = le-leb (length (encode (frame q t d))) (length out) (omega (arith, frame_length q t d, size few)) in
        failed_tests (data_length_allowed (length d)) (leb (length (encode (frame q t d))) (length out)) (length (encode (frame q t d))) e answered fits

-- a record whose octets were offered, and that changes nothing else when it is accepted
pub offered_record : (s s' : State) (r : Record) (octets : List ℕ) (a : Answer) → octets ≡ encode r → produced r s.session ≡ s.session
    → Leads s (offering s.session s.frames octets) a s' → Leads s (admit s.session s.frames r) a s'
unfolding admit
offered_record s s' r octets a is same l =
    leads_by s s' _ (offering s.session s.frames octets) _ (rw (same, ← is) refl) l

-- what the answer to an offer tells of the room
module _ (s s' : State) (x : List ℕ) where
  pub was_taken : Leads s (offering s.session s.frames x) accepted s' → (s.frames.room (length x) ≡ true) × Added s.frames x s'.frames × (s'.session ≡ s.session) × (s'.transport ≡ s.transport)
  was_taken l = by (s.frames.room (length x)) refl
    where
      by : (b : Bool) → s.frames.room (length x) ≡ b → (s.frames.room (length x) ≡ true) × Added s.frames x s'.frames × (s'.session ≡ s.session) × (s'.transport ≡ s.transport)
      by true room = let taken = rw room at l in (room, taken.frames, taken.session, taken.transport)
      by false room = let none = rw room at l in absurd (let e = none.answer in cc)

  pub was_refused : (n : ℕ) → Leads s (offering s.session s.frames x) (refused n) s' → Leads s (refuses s.session 13) (refused n) s' × (s.frames.room (length x) ≡ false)
  was_refused n l = by (s.frames.room (length x)) refl
    where
      by : (b : Bool) → s.frames.room (length x) ≡ b → Leads s (refuses s.session 13) (refused n) s' × (s.frames.room (length x) ≡ false)
      by true room = let taken = rw room at l in absurd (let e = taken.answer in cc)
      by false room = (rw room at l, room)

-- a record whose octets were taken, and what it changes besides
pub taken_record : (s s' : State) (r : Record) (octets : List ℕ) (own : Session) → octets ≡ encode r → own ≡ produced r s'.session → Leads s (offering s.session s.frames octets) accepted s'
    → Leads s (admit s.session s.frames r) accepted (record { settings = s'.settings; opening = s'.opening; session = own; frames = s'.frames; transport = s'.transport })
taken_record s s' r octets own is produces l =
    let t = was_taken s s' octets l in
    let room : s.frames.room (length (encode r)) ≡ true = ap (λ x. s.frames.room (length x)) (sym is) ∙ t.0 in
    leads_by s _ _ _ _ (admits s.session s.frames r room)
    (record { answer = refl; settings = l.settings; opening = l.opening; session = produces ∙ ap (produced r) t.2; frames = subst (λ x. Added s.frames x s'.frames) is t.1; transport = t.3 })

pub refused_record : (s s' : State) (r : Record) (octets : List ℕ) (n : ℕ) → octets ≡ encode r → Leads s (offering s.session s.frames octets) (refused n) s'
    → Leads s (admit s.session s.frames r) (refused n) s'
refused_record s s' r octets n is l =
    let t = was_refused s s' octets n l in
    let none : s.frames.room (length (encode r)) ≡ false = ap (λ x. s.frames.room (length x)) (sym is) ∙ t.1 in
    leads_by s s' _ _ _ (full s.session s.frames r none) t.0

module _ (s : Session) (frames : Queue) (n : ℕ) (r : Option Record) where
  pub closed_refuses : is_closed s.phase ≡ true → receive_by s frames n r ≡ refuses s 4
  unfolding receive_by
  closed_refuses e = rw e

  pub open_receives : is_closed s.phase ≡ false → receive_by s frames n r ≡ receive s frames n r
  unfolding receive_by
  open_receives e = rw e

either_copied : (b : Bool) (x y : Outcome) → [] ≡ x.copied → [] ≡ y.copied → [] ≡ (cond b x y).copied
either_copied b x y e f = grind arith

pub admit_copies_nothing : (s : Session) (frames : Queue) (r : Record) → [] ≡ (admit s frames r).copied
unfolding admit
admit_copies_nothing s frames r = either_copied (frames.room (length (encode r))) (record { answer = accepted; copied = []; session = produced r s; on_frames = add (encode r); on_transport = keep }) (refuses s 13) refl refl

pub copies_nothing : (s : Session) (frames : Queue) (n : ℕ) (r : Option Record) → [] ≡ (receive s frames n r).copied
copies_nothing s frames n None = refl
copies_nothing s frames n (Some r) =
    either_copied (is_timely r) (cond (has_data r) (admit s frames r) (refuses s 12)) (refuses s 11) (either_copied (has_data r) (admit s frames r) (refuses s 12) (admit_copies_nothing s frames r) refl) refl

-- an octet that stands for no value, and one that does
module _ {X : Type 0} (o : Option X) (n : ℕ) (r : Result X UnknownOctet) (is : r ≡ known o n) where
  pub no_value : (e : UnknownOctet) → r ≡ Err e → o ≡ None
  no_value e failed = grind arith

  pub a_value : (x : X) → r ≡ Ok x → o ≡ Some x
  a_value x found = grind arith

-- numbers that make no time are beyond a limit, and those that make one are its numbers
module _ (n : Stamp) (r : Result Time TimeField) where
  pub no_time : (e : TimeField) → stamp_or r ≡ checked_stamp n.day n.millisecond n.microsecond → r ≡ Err e → timely n ≡ false
  no_time e is failed = grind (arith, nat_tests)

  pub a_time : (t : Time) → stamp_or r ≡ checked_stamp n.day n.millisecond n.microsecond → r ≡ Ok t → stamp t ≡ n
  a_time t is made = grind (arith, nat_tests)

-- a buffer for the longest record takes every notification
pub always_written : (n : Notification) (out : List ℕ) (e : WriteRefusal) → Err e ≡ write_answer (length out) (notified n) → length out ≡ longest_record → ⊥
always_written n out e answered size =
    let fits = le-leb (length (encode (notified n))) (length out) (let l = short n in omega arith) in
    let never = failed_tests (writable (notified n)) (leb (length (encode (notified n))) (length out)) (length (encode (notified n))) e answered fits in
    contrary (writable (notified n)) (may n) never
  where
    short : (n : Notification) → length (encode (notified n)) ≤ longest_record
    short (LossOfFrameSynchronization t) = omega (arith, loss_length (stamp t))
    short (ProductionStatusChange v) = omega (arith, status_length v)
    short EndOfData = omega (arith, end_length)

    may : (n : Notification) → writable (notified n) ≡ true
    may (LossOfFrameSynchronization t) = refl
    may (ProductionStatusChange v) = refl
    may EndOfData = refl

    contrary : (b : Bool) → b ≡ true → b ≡ false → ⊥
    contrary true e f = cc
    contrary false e f = cc

-- a note of another type means nothing
pub no_note : (kind : ℕ) (t : Stamp) (v : ℕ) → (kind ≡ 0 → ⊥) → (kind ≡ 1 → ⊥) → as_note kind t v ≡ None
no_note kind t v a b = grind arith

-- only a status change changes the session
pub unproduced : (n : Notification) (s : Session) → ((v : ProductionStatus) → n ≡ ProductionStatusChange v → ⊥) → s ≡ produced (notified n) s
unproduced n s ne = grind arith
