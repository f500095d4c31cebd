-- Where the faults of an invocation lie.
use Rattle.std.proofs.Common.{◌≡◌, ℕ, ◌+◌, ◌<◌, ◌≤◌, Bool, true, false, cond, eqb, ltb, leb, ◌⊎◌, List, length, take, drop, Some, None, Ok, Err, Result, sym, refl, ap, ◌∙◌, subst, inl, inr, ⊎_elim, arith}
use Rattle.std.proofs.lemmas.Bool.{le-ltb, ltb-true}
use Rattle.std.proofs.lemmas.List.{length-take-le}
use Rattle.codec.specs.Fields.{fault, and_then}
use Rattle.codec.specs.Invocations.{Request, start, bind, unbind, abort, stop, invocation_mark, identifier_length_allowed, start_operation, stop_operation, bind_operation, unbind_operation, abort_operation}
use Rattle.codec.specs.InvocationReading.{requested_quality_of, reason_of, requested_quality_at, reason_at, stamp_if_at, stamp_if_length, version_at, identifier_at, ending_at, start_at, bind_at, unbind_at, abort_at, operation_in, request_in}
use Rattle.codec_laws.specs.Laws.{RequestFaultsHaveTheirPlace, FaultOfRequest}
use Rattle.codec.specs.declared.fault.Fault.{Fault}
use Rattle.codec.specs.declared.fault.FaultKind.{FaultKind}
use Rattle.codec.specs.declared.fault.FaultKind.TheVariants.{Short, Mark, Value, Extra}
use Rattle.codec.proofs.Results.{cond_cases}
use Rattle.codec_laws.proofs.Steady.{Allowed, Steady, ok_or_err, same_err, steady_then, steady_cond, steady_value, steady_ok, steady_present}
use Rattle.codec.proofs.FieldsRead.{block_read}
use Rattle.codec_laws.proofs.FieldsSteady.{octet_steady, two_octets_steady, value_steady, stamp_steady}
use Rattle.codec_laws.proofs.RecordsSteady.{take_drop_take}

-- the fault of a reader that reads from m to the input's end, and how it reads the octets before the fault
abbrev Verdict : ℕ → (List ℕ → Result Request Fault) → List ℕ → FaultKind → ℕ → Type 0
Verdict m read xs Short place = place ≡ length xs
Verdict m read xs Mark place = (place < length xs) × (m ≤ place → read (take place xs) ≡ Err (fault Short place))
Verdict m read xs Value place = (place < length xs) × (m ≤ place → read (take place xs) ≡ Err (fault Short place))
Verdict m read xs Extra place = (m ≤ place) × (place < length xs) × ((r : Request) × (read (take place xs) ≡ Ok r))

abbrev Ending : ℕ → (List ℕ → Result Request Fault) → Type 0
Ending m read = (xs : List ℕ) → m ≤ length xs → (f : Fault) → read xs ≡ Err f → Verdict m read xs f.kind f.place

-- nothing but what is left over is wrong at the end
ending_end : (at : ℕ) (r : Request) → Ending at (λ xs. ending_at xs at r)
ending_end at r xs h f e =
    ⊎_elim (λ a.
    let more = ltb-true at (length xs) a.0 in
    let long = length-take-le at xs h in
    let t = le-ltb at (length (take at xs)) (omega arith) in
    let reads : ending_at (take at xs) at r ≡ Ok r = rw t in
    subst (λ z. Verdict at (λ ys. ending_at ys at r) xs z.kind z.place) (same_err a.1) (omega arith, more, (r, reads)))
    (λ a. cc)
    (cond_cases (ltb at (length xs)) _ _ e)

ending_cond : {m : ℕ} {one other : List ℕ → Result Request Fault} (b : Bool) → Ending m one → Ending m other → Ending m (λ xs. cond b (one xs) (other xs))
ending_cond true s t = s
ending_cond false s t = t

ending_fault : {m : ℕ} (kind : FaultKind) (place : ℕ) → place < m → ((kind ≡ Mark) ⊎ (kind ≡ Value)) → Ending m (λ xs. Err (fault kind place))
ending_fault {m} kind place low which xs h f e =
    subst (λ z. Verdict m (λ ys. Err (fault kind place)) xs z.kind z.place) (same_err e)
    (⊎_elim (λ k. subst (λ z. Verdict m (λ ys. Err (fault kind place)) xs z place) (sym k) (omega arith, λ l. absurd (omega arith)))
    (λ k. subst (λ z. Verdict m (λ ys. Err (fault kind place)) xs z place) (sym k) (omega arith, λ l. absurd (omega arith))) which)

module _ {X : Type 0} {m : ℕ} {read : List ℕ → Result X Fault} {end : X → ℕ} {next : X → List ℕ → Result Request Fault}
    (first : Steady 0 m read end) (second : (x : X) → Ending (end x) (next x)) where
  abbrev both : List ℕ → Result Request Fault
  both xs = and_then (read xs) (λ x. next x xs)

  passed : (xs : List ℕ) (r : Result X Fault) → read xs ≡ r → both xs ≡ and_then r (λ x. next x xs)
  passed xs r e = ap (λ z. and_then z (λ x. next x xs)) e

  -- the second is at fault: cut before the fault, either reader comes to the cut
  short_there : (xs : List ℕ) (x : X) (place : ℕ) → m ≤ length xs → read xs ≡ Ok x → place < length xs
      → (end x ≤ place → next x (take place xs) ≡ Err (fault Short place)) → m ≤ place → both (take place xs) ≡ Err (fault Short place)
  short_there xs x place h e high v low =
      let long = length-take-le place xs (omega arith) in
      ⊎_elim (λ same. let reach = (first.far (take place xs) (omega arith) x (same ∙ e)).1 in passed (take place xs) _ (same ∙ e) ∙ v (omega arith))
      (λ short. passed (take place xs) _ short)
      (first.cut xs place low (omega arith))

  there : (xs : List ℕ) (x : X) (kind : FaultKind) (place : ℕ) → m ≤ length xs → read xs ≡ Ok x → Verdict (end x) (next x) xs kind place → Verdict m both xs kind place
  there xs x Short place h e v = v
  there xs x Mark place h e v = (v.0, short_there xs x place h e v.0 v.1)
  there xs x Value place h e v = (v.0, short_there xs x place h e v.0 v.1)
  there xs x Extra place h e v =
      let reach = first.far xs h x e in (
        omega (arith, reach.0, v.0),
        v.1,
        (v.2.0, passed (take place xs) _ (first.kept xs place (omega (arith, reach.0, v.0)) (omega (arith, v.1)) x e v.0) ∙ v.2.1),
      )

  -- the first is at fault: cut before the fault, it is too short
  short_here : (xs : List ℕ) (kind : FaultKind) (place : ℕ) → read xs ≡ Err (fault kind place) → place < length xs
      → (Allowed 0 place kind place → ⊥) → m ≤ place → both (take place xs) ≡ Err (fault Short place)
  short_here xs kind place e high never low =
      let long = length-take-le place xs (omega arith) in
      ⊎_elim (λ same. absurd (never (subst (λ l. Allowed 0 l kind place) long (first.sound (take place xs) (omega arith) (fault kind place) (same ∙ e)))))
      (λ short. passed (take place xs) _ short)
      (first.cut xs place low (omega arith))

  here : (xs : List ℕ) (kind : FaultKind) (place : ℕ) → read xs ≡ Err (fault kind place) → Allowed 0 (length xs) kind place → Verdict m both xs kind place
  here xs Short place e a = a
  here xs Mark place e a = (omega (arith, a.0, a.1), short_here xs Mark place e (omega (arith, a.0, a.1)) (λ b. omega (arith, b.0, b.1)))
  here xs Value place e a = (a.1, short_here xs Value place e a.1 (λ b. omega (arith, b.1)))
  here xs Extra place e a = absurd a

  ending_then : Ending m (λ xs. and_then (read xs) (λ x. next x xs))
  ending_then xs h f e =
      ⊎_elim (λ a. there xs a.0 f.kind f.place h a.1 (second a.0 xs (first.far xs h a.0 a.1).1 f (sym (passed xs _ a.1) ∙ e)))
      (λ a. let read_is = a.1 ∙ ap Err (same_err (sym (passed xs _ a.1) ∙ e)) in here xs f.kind f.place read_is (first.sound xs h f read_is))
      (ok_or_err (read xs))

requested_quality_steady : (at : ℕ) → 0 < at → Steady 0 at (λ xs. requested_quality_at xs at) (λ _. at + 1)
requested_quality_steady at low = steady_then 0 (octet_steady 0 at) (λ n. value_steady 0 (requested_quality_of n) at low (omega arith))

reason_steady : (at : ℕ) → 0 < at → Steady 0 at (λ xs. reason_at xs at) (λ _. at + 1)
reason_steady at low = steady_then 0 (octet_steady 0 at) (λ n. value_steady 0 (reason_of n) at low (omega arith))

stamp_if_steady : (at : ℕ) → 0 < at → Steady 0 at (λ xs. stamp_if_at xs at) (λ o. at + stamp_if_length o)
stamp_if_steady at low =
    steady_then 0 (octet_steady 0 at) (λ flag.
    steady_cond 0 (eqb flag 0) (steady_ok 0 (λ xs. None) (λ xs h. refl) (λ xs p h k. refl))
    (steady_cond 0 (eqb flag 1)
    (steady_then 0 (stamp_steady 0 (at + 1) (omega arith)) (λ t. steady_ok 0 (λ xs. Some t) (λ xs h. omega arith) (λ xs p h k. refl)))
    (steady_value 0 at low (omega arith))))

version_steady : (at : ℕ) → 0 < at → Steady 0 at (λ xs. version_at xs at) (λ _. at + 1)
version_steady at low =
    steady_then 0 (octet_steady 0 at) (λ v.
    steady_cond 0 (leb 1 v) (steady_ok 0 (λ xs. v) (λ xs h. refl) (λ xs p h k. refl)) (steady_value 0 at low (omega arith)))

identifier_steady : (at : ℕ) → 0 < at → Steady 0 at (λ xs. identifier_at xs at) (λ name. at + 1 + length name)
identifier_steady at low =
    steady_then 0 (octet_steady 0 at) (λ n.
    steady_cond 0 (identifier_length_allowed n)
    (steady_present 0 (at + 1) n (λ xs. take n (drop (at + 1) xs)) (λ xs h. ap (λ k. at + 1 + k) (block_read xs (at + 1) n h).0) (λ xs p h k. take_drop_take xs n (at + 1) p h k))
    (steady_value 0 at low (omega arith)))

start_ending : (i : ℕ) → Ending 5 (λ xs. start_at xs 5 i)
start_ending i =
    ending_then (requested_quality_steady 5 (omega arith)) (λ q.
    ending_then (stamp_if_steady 6 (omega arith)) (λ from.
    ending_then (stamp_if_steady (6 + stamp_if_length from) (omega arith)) (λ until.
    ending_end (6 + stamp_if_length from + stamp_if_length until) (start i q from until))))

bind_ending : (i : ℕ) → Ending 5 (λ xs. bind_at xs 5 i)
bind_ending i =
    ending_then (version_steady 5 (omega arith)) (λ v.
    ending_then (identifier_steady 6 (omega arith)) (λ name.
    ending_end (7 + length name) (bind i v name)))

unbind_ending : (i : ℕ) → Ending 5 (λ xs. unbind_at xs 5 i)
unbind_ending i = ending_then (reason_steady 5 (omega arith)) (λ reason. ending_end 6 (unbind i reason))

abort_ending : Ending 3 (λ xs. abort_at xs 3)
abort_ending = ending_then (octet_steady 0 3) (λ d. ending_end 4 (abort d))

operation_ending : (operation : ℕ) → Ending 3 (λ xs. operation_in xs operation)
operation_ending operation =
    ending_cond (eqb operation start_operation) (ending_then (two_octets_steady 0 3) start_ending)
    (ending_cond (eqb operation stop_operation) (ending_then (two_octets_steady 0 3) (λ i. ending_end 5 (stop i)))
    (ending_cond (eqb operation bind_operation) (ending_then (two_octets_steady 0 3) bind_ending)
    (ending_cond (eqb operation unbind_operation) (ending_then (two_octets_steady 0 3) unbind_ending)
    (ending_cond (eqb operation abort_operation) abort_ending
    (ending_fault Value 2 (omega arith) (inr refl))))))

request_ending : Ending 0 request_in
unfolding request_in
request_ending =
    ending_then (two_octets_steady 0 0) (λ mark.
    ending_cond (eqb mark invocation_mark) (ending_then (octet_steady 0 2) operation_ending)
    (ending_fault Mark 0 (omega arith) (inl refl)))

settled : (xs : List ℕ) (kind : FaultKind) (place : ℕ) → Verdict 0 request_in xs kind place → FaultOfRequest xs kind place
settled xs Short place v = v
settled xs Mark place v = (v.0, v.1 (omega arith))
settled xs Value place v = (v.0, v.1 (omega arith))
settled xs Extra place v = (v.1, v.2)

pub request_faults_have_their_place : RequestFaultsHaveTheirPlace
request_faults_have_their_place xs f h = settled xs f.kind f.place (request_ending xs (omega arith) f h)
