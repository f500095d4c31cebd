-- The layout of a well-formed request reads as that request.
use Rattle.std.proofs.Common.{◌≡◌, ℕ, ◌+◌, ◌≤◌, List, [], ◌∷◌, ◌++◌, length, drop, Some, None, Ok, Option, sym, refl, ap, ◌∙◌, arith}
use Rattle.std.proofs.lemmas.Bool.{le-leb, le-ltb, leb-true, and_parts}
use Rattle.std.proofs.lemmas.List.{append-nil, length-drop}
use Rattle.codec.specs.Limits.{two_octet_limit, shortest_identifier}
use Rattle.codec.specs.Times.{Stamp, two_octets, stamp_octets}
use Rattle.codec.specs.Fields.{two_octets_at}
use Rattle.codec.specs.Invocations.{Request, start, stop, bind, unbind, abort, layout, WellFormedRequest, TimelyIf, invocation_mark, invocation_header, start_operation, stop_operation, bind_operation, unbind_operation, abort_operation, requested_quality_octet, reason_octet, stamp_if_octets}
use Rattle.codec.specs.InvocationReading.{stamp_if_at, stamp_if_length, ending_at, operation_in, request_in}
use Rattle.codec.specs.contracts.invocation.values.RequestedQualityOctetValue.TheImpl as requested_quality_laws
use Rattle.codec.specs.contracts.invocation.values.UnbindReasonOctetValue.TheImpl as reason_laws
use Rattle.codec.specs.declared.invocation.RequestedQuality.{RequestedQuality}
use Rattle.codec.specs.declared.invocation.UnbindReason.{UnbindReason}
use Rattle.codec.proofs.FieldsWritten.{octet_written, two_octets_written, block_written, behind, stamp_written}

stamp_if_length_lem : (o : Option Stamp) → length (stamp_if_octets o) ≡ stamp_if_length o
stamp_if_length_lem None = refl
stamp_if_length_lem (Some t) = refl

stamp_if_written : (o : Option Stamp) (ys s : List ℕ) (at : ℕ) → drop at ys ≡ stamp_if_octets o ++ s → TimelyIf o → stamp_if_at ys at ≡ Ok o
stamp_if_written None ys s at e g = let e1 = octet_written ys s 0 at e in rw e1
stamp_if_written (Some t) ys s at e g =
    let e1 = octet_written ys (stamp_octets t ++ s) 1 at e in
    let e2 = stamp_written ys s t (at + 1) (behind ys (1 ∷ []) (stamp_octets t ++ s) at 1 e refl) g in
    rw (e1, e2)

-- nothing stands behind a request that ends its octets
ending_written : (ys : List ℕ) (at : ℕ) (r : Request) → drop at ys ≡ [] → ending_at ys at r ≡ Ok r
ending_written ys at r e = let t = le-ltb at (length ys) (omega (arith, length-drop at ys, ap length e)) in rw t

-- mark and operation lead to the operation
operation_written : (ys s : List ℕ) (operation : ℕ) → ys ≡ two_octets invocation_mark ++ (operation ∷ s) → request_in ys ≡ operation_in ys operation
unfolding request_in
operation_written ys s operation e =
    let e1 = two_octets_written ys (operation ∷ s) invocation_mark 0 e (omega arith) in
    let e2 = octet_written ys s operation 2 (behind ys (two_octets invocation_mark) (operation ∷ s) 0 2 e refl) in
    rw (e1, e2)

-- and to the invoke-ID, behind which the body stands
module _ (ys body : List ℕ) (operation i : ℕ) (e : ys ≡ invocation_header operation i ++ body) (small : i ≤ two_octet_limit) where
  id_written : two_octets_at ys 3 ≡ Ok i
  id_written = two_octets_written ys body i 3 (behind ys (two_octets invocation_mark ++ (operation ∷ [])) (two_octets i ++ body) 0 3 e refl) small

  body_stands : drop 5 ys ≡ body
  body_stands = behind ys (invocation_header operation i) body 0 5 e refl

start_written : (ys : List ℕ) (i : ℕ) (q : RequestedQuality) (from until : Option Stamp) → ys ≡ layout (start i q from until) → WellFormedRequest (start i q from until) → request_in ys ≡ Ok (start i q from until)
unfolding layout
start_written ys i q from until e g =
    let body = requested_quality_octet q ∷ (stamp_if_octets from ++ stamp_if_octets until) in
    let e0 = operation_written ys (two_octets i ++ body) start_operation e in
    let e1 = id_written ys body start_operation i e g.0 in
    let f2 = body_stands ys body start_operation i e g.0 in
    let e2 = octet_written ys (stamp_if_octets from ++ stamp_if_octets until) (requested_quality_octet q) 5 f2 in
    let e3 = (requested_quality_laws.given_back-value).it q in
    let f4 : drop 6 ys ≡ stamp_if_octets from ++ stamp_if_octets until = behind ys (requested_quality_octet q ∷ []) (stamp_if_octets from ++ stamp_if_octets until) 5 1 f2 refl in
    let e4 = stamp_if_written from ys (stamp_if_octets until) 6 f4 g.1 in
    let f5 : drop (6 + stamp_if_length from) ys ≡ stamp_if_octets until ++ [] = behind ys (stamp_if_octets from) (stamp_if_octets until) 6 (stamp_if_length from) f4 (stamp_if_length_lem from) ∙ sym (append-nil (stamp_if_octets until)) in
    let e5 = stamp_if_written until ys [] (6 + stamp_if_length from) f5 g.2 in
    let e6 = ending_written ys (6 + stamp_if_length from + stamp_if_length until) (start i q from until) (behind ys (stamp_if_octets until) [] (6 + stamp_if_length from) (stamp_if_length until) f5 (stamp_if_length_lem until)) in
    e0 ∙ rw (e1, e2, e3, e4, e5) e6

stop_written : (ys : List ℕ) (i : ℕ) → ys ≡ layout (stop i) → i ≤ two_octet_limit → request_in ys ≡ Ok (stop i)
unfolding layout
stop_written ys i e g =
    let e0 = operation_written ys (two_octets i) stop_operation e in
    let e1 = id_written ys [] stop_operation i e g in
    let e2 = ending_written ys 5 (stop i) (body_stands ys [] stop_operation i e g) in
    e0 ∙ rw (e1) e2

bind_written : (ys : List ℕ) (i v : ℕ) (name : List ℕ) → ys ≡ layout (bind i v name) → WellFormedRequest (bind i v name) → request_in ys ≡ Ok (bind i v name)
unfolding layout
bind_written ys i v name e g =
    let n = length name in
    let body = v ∷ n ∷ name in
    let e0 = operation_written ys (two_octets i ++ body) bind_operation e in
    let e1 = id_written ys body bind_operation i e g.0 in
    let f2 = body_stands ys body bind_operation i e g.0 in
    let e2 = octet_written ys (n ∷ name) v 5 f2 in
    let t2 = le-leb 1 v g.1 in
    let e3 = octet_written ys name n 6 (behind ys (v ∷ []) (n ∷ name) 5 1 f2 refl) in
    let t3 = g.3 in
    let low = leb-true shortest_identifier n (and_parts _ _ t3).0 in
    let f4 : drop 7 ys ≡ name ++ [] = behind ys (v ∷ n ∷ []) name 5 2 f2 refl ∙ sym (append-nil name) in
    let block = block_written ys name [] 7 n f4 refl (omega arith) in
    let t4 = le-leb (7 + n) (length ys) block.0 in
    let part = block.1 in
    let e5 = ending_written ys (7 + n) (bind i v name) (behind ys name [] 7 n f4 refl) in
    e0 ∙ rw (e1, e2, t2, e3, t3, t4, part) e5

unbind_written : (ys : List ℕ) (i : ℕ) (reason : UnbindReason) → ys ≡ layout (unbind i reason) → i ≤ two_octet_limit → request_in ys ≡ Ok (unbind i reason)
unfolding layout
unbind_written ys i reason e g =
    let body = reason_octet reason ∷ [] in
    let e0 = operation_written ys (two_octets i ++ body) unbind_operation e in
    let e1 = id_written ys body unbind_operation i e g in
    let f2 = body_stands ys body unbind_operation i e g in
    let e2 = octet_written ys [] (reason_octet reason) 5 f2 in
    let e3 = (reason_laws.given_back-value).it reason in
    let e4 = ending_written ys 6 (unbind i reason) (behind ys body [] 5 1 f2 refl) in
    e0 ∙ rw (e1, e2, e3) e4

abort_written : (ys : List ℕ) (d : ℕ) → ys ≡ layout (abort d) → request_in ys ≡ Ok (abort d)
unfolding layout
abort_written ys d e =
    let e0 = operation_written ys (d ∷ []) abort_operation e in
    let f1 = behind ys (two_octets invocation_mark ++ (abort_operation ∷ [])) (d ∷ []) 0 3 e refl in
    let e1 = octet_written ys [] d 3 f1 in
    let e2 = ending_written ys 4 (abort d) (behind ys (d ∷ []) [] 3 1 f1 refl) in
    e0 ∙ rw (e1) e2

pub request_written : (r : Request) → WellFormedRequest r → request_in (layout r) ≡ Ok r
request_written (start i q from until) g = start_written (layout (start i q from until)) i q from until refl g
request_written (stop i) g = stop_written (layout (stop i)) i refl g
request_written (bind i v name) g = bind_written (layout (bind i v name)) i v name refl g
request_written (unbind i reason) g = unbind_written (layout (unbind i reason)) i reason refl g
request_written (abort d) g = abort_written (layout (abort d)) d refl
