-- Octets that read as a request are its layout, and the request is well formed.
use Rattle.std.proofs.Common.{◌≡◌, ℕ, ◌+◌, ◌≤◌, true, eqb, ltb, leb, List, [], ◌∷◌, ◌++◌, length, take, drop, Some, Ok, Option, sym, ap, ◌∙◌, subst, ⊎_elim, arith}
use Rattle.std.proofs.lemmas.Bool.{leb-true, ltb-false, eqb-true}
use Rattle.std.proofs.lemmas.List.{append-nil, drop_all}
use Rattle.codec.specs.Limits.{time_length, two_octet_limit}
use Rattle.codec.specs.Octets.{Octets}
use Rattle.codec.specs.Times.{Stamp, two_octets, stamp_octets}
use Rattle.codec.specs.Fields.{octet_at, two_octets_at, stamp_at}
use Rattle.codec.specs.Invocations.{Request, layout, WellFormedRequest, TimelyIf, identifier_length_allowed, invocation_mark, invocation_header, start_operation, stop_operation, bind_operation, unbind_operation, abort_operation, requested_quality_octet, reason_octet, stamp_if_octets}
use Rattle.codec.specs.InvocationReading.{requested_quality_of, reason_of, requested_quality_at, reason_at, stamp_if_at, stamp_if_length, version_at, identifier_at, ending_at, operation_in, start_at, stop_at, bind_at, unbind_at, abort_at, request_in}
use Rattle.codec.specs.declared.invocation.RequestedQuality.{RequestedQuality}
use Rattle.codec.specs.declared.invocation.RequestedQuality.TheVariants.{GoodOnly, ErredOnly, All}
use Rattle.codec.specs.declared.invocation.UnbindReason.{UnbindReason}
use Rattle.codec.specs.declared.invocation.UnbindReason.TheVariants.{End, Suspend, VersionNotSupported, Other}
use Rattle.codec.proofs.Results.{same_ok, and_then_ok, cond_ok, cond_cases, or_value_fault_ok, octet_of}
use Rattle.codec.proofs.FieldsRead.{Stands, octet_read, two_octets_read, block_read, stamp_read}

requested_quality_octet_lem : (n : ℕ) (q : RequestedQuality) → requested_quality_of n ≡ Some q → n ≡ requested_quality_octet q
requested_quality_octet_lem n q =
    octet_of requested_quality_octet n GoodOnly _ (octet_of requested_quality_octet n ErredOnly _ (octet_of requested_quality_octet n All _ (λ none. cc)))

reason_octet_lem : (n : ℕ) (r : UnbindReason) → reason_of n ≡ Some r → n ≡ reason_octet r
reason_octet_lem n r =
    octet_of reason_octet n End _ (octet_of reason_octet n Suspend _
    (octet_of reason_octet n VersionNotSupported _ (octet_of reason_octet n Other _ (λ none. cc))))

-- a request that was read to its end
ending_read : (xs : List ℕ) (at : ℕ) (r : Request) {s : Request} → ending_at xs at r ≡ Ok s → (drop at xs ≡ []) × (r ≡ s)
ending_read xs at r {s} h =
    ⊎_elim (λ a. cc) (λ a. (drop_all at xs (ltb-false at (length xs) a.0), same_ok a.1))
    (cond_cases (ltb at (length xs)) _ _ h)

-- a well-formed request whose layout the octets are
abbrev Laid : List ℕ → Request → Type 0
Laid xs r = WellFormedRequest r × (layout r ≡ xs)

module _ (xs : List ℕ) (octets : Octets xs) where
  stamp_if_read : (at : ℕ) (o : Option Stamp) → stamp_if_at xs at ≡ Ok o → TimelyIf o × Stands xs (stamp_if_octets o) at (stamp_if_length o)
  stamp_if_read at o h =
      let a = and_then_ok (octet_at xs at) _ h in
      let flag = (octet_read xs octets at a.0 a.1).0 in
      let P : Option Stamp → Type 0 = λ z. TimelyIf z × Stands xs (stamp_if_octets z) at (stamp_if_length z) in
      ⊎_elim (λ b. subst P (same_ok b.1) (tt, subst (λ n. Stands xs (n ∷ []) at 1) (eqb-true a.0 0 b.0) flag))
      (λ b.
      let c = cond_ok (eqb a.0 1) _ _ b.1 in
      let d = and_then_ok (stamp_at xs (at + 1)) _ c.1 in
      let t = stamp_read xs octets (at + 1) d.0 d.1 in
      let one = subst (λ n. Stands xs (n ∷ []) at 1) (eqb-true a.0 1 c.0) flag in
      let k : at + 1 + time_length ≡ at + (1 + time_length) = omega arith in
      subst P (same_ok d.2) (
        t.0,
        record {
          inside = omega (arith, t.1.inside);
          here = one.here ∙ ap (λ l. 1 ∷ l) (t.1.here ∙ ap (λ j. stamp_octets d.0 ++ drop j xs) k);
        },
      ))
      (cond_cases (eqb a.0 0) _ _ a.2)

  -- mark, operation and invoke-ID, as they stand before the body
  header_stands : (operation i : ℕ) → two_octets_at xs 0 ≡ Ok invocation_mark → octet_at xs 2 ≡ Ok operation → two_octets_at xs 3 ≡ Ok i
      → (i ≤ two_octet_limit) × (xs ≡ invocation_header operation i ++ drop 5 xs)
  header_stands operation i m o h =
      let f0 = (two_octets_read xs octets 0 invocation_mark m).0.here in
      let f1 = (octet_read xs octets 2 operation o).0.here in
      let f2 = two_octets_read xs octets 3 i h in
      (f2.1, f0 ∙ ap (λ l. two_octets invocation_mark ++ l) (f1 ∙ ap (λ l. operation ∷ l) f2.0.here))

  module _ (m : two_octets_at xs 0 ≡ Ok invocation_mark) where
    start_read : (i : ℕ) (r : Request) → octet_at xs 2 ≡ Ok start_operation → two_octets_at xs 3 ≡ Ok i → start_at xs 5 i ≡ Ok r → Laid xs r
    unfolding layout
    start_read i r o h b =
        let head = header_stands start_operation i m o h in
        let q = and_then_ok (requested_quality_at xs 5) _ b in
        let q1 = and_then_ok (octet_at xs 5) _ q.1 in
        let quality = requested_quality_octet_lem q1.0 q.0 (or_value_fault_ok _ 5 q1.2) in
        let f1 = (octet_read xs octets 5 q1.0 q1.1).0.here ∙ ap (λ n. n ∷ drop 6 xs) quality in
        let from = and_then_ok (stamp_if_at xs 6) _ q.2 in
        let f2 = stamp_if_read 6 from.0 from.1 in
        let until = and_then_ok (stamp_if_at xs (6 + stamp_if_length from.0)) _ from.2 in
        let f3 = stamp_if_read (6 + stamp_if_length from.0) until.0 until.1 in
        let end = ending_read xs _ _ until.2 in
        let last = f3.1.here ∙ ap (λ l. stamp_if_octets until.0 ++ l) end.0 ∙ append-nil (stamp_if_octets until.0) in
        let all = f1 ∙ ap (λ l. requested_quality_octet q.0 ∷ l) (f2.1.here ∙ ap (λ l. stamp_if_octets from.0 ++ l) last) in
        subst (Laid xs) end.1
        ((head.0, f2.0, f3.0), sym (head.1 ∙ ap (λ l. invocation_header start_operation i ++ l) all))

    stop_read : (i : ℕ) (r : Request) → octet_at xs 2 ≡ Ok stop_operation → two_octets_at xs 3 ≡ Ok i → stop_at xs 5 i ≡ Ok r → Laid xs r
    unfolding layout
    stop_read i r o h b =
        let head = header_stands stop_operation i m o h in
        let end = ending_read xs 5 _ b in
        subst (Laid xs) end.1
        (head.0, sym (head.1 ∙ ap (λ l. invocation_header stop_operation i ++ l) end.0))

    bind_read : (i : ℕ) (r : Request) → octet_at xs 2 ≡ Ok bind_operation → two_octets_at xs 3 ≡ Ok i → bind_at xs 5 i ≡ Ok r → Laid xs r
    unfolding layout
    bind_read i r o h b =
        let head = header_stands bind_operation i m o h in
        let v = and_then_ok (version_at xs 5) _ b in
        let v1 = and_then_ok (octet_at xs 5) _ v.1 in
        let v2 = cond_ok (leb 1 v1.0) _ _ v1.2 in
        let version : v1.0 ≡ v.0 = same_ok v2.1 in
        let low = leb-true 1 v1.0 v2.0 in
        let f1 = octet_read xs octets 5 v1.0 v1.1 in
        let name = and_then_ok (identifier_at xs 6) _ v.2 in
        let n1 = and_then_ok (octet_at xs 6) _ name.1 in
        let n2 = cond_ok (identifier_length_allowed n1.0) _ _ n1.2 in
        let n3 = cond_ok (leb (7 + n1.0) (length xs)) (Ok (take n1.0 (drop 7 xs))) _ n2.1 in
        let f2 = (octet_read xs octets 6 n1.0 n1.1).0.here in
        let block = block_read xs 7 n1.0 (leb-true _ _ n3.0) in
        let is : take n1.0 (drop 7 xs) ≡ name.0 = same_ok n3.1 in
        let long : n1.0 ≡ length name.0 = sym block.0 ∙ ap length is in
        let end = ending_read xs (7 + length name.0) _ name.2 in
        let f3 = block.1 ∙ (λ j. is j ++ drop (7 + long j) xs) ∙ ap (λ l. name.0 ++ l) end.0 ∙ append-nil name.0 in
        let all = f1.0.here ∙ ap (λ l. v1.0 ∷ l) (f2 ∙ ap (λ l. n1.0 ∷ l) f3) ∙ (λ j. version j ∷ long j ∷ name.0) in
        subst (Laid xs) end.1 (
          (head.0, omega arith, omega (arith, f1.1), ap identifier_length_allowed (sym long) ∙ n2.0),
          sym (head.1 ∙ ap (λ l. invocation_header bind_operation i ++ l) all),
        )

    unbind_read : (i : ℕ) (r : Request) → octet_at xs 2 ≡ Ok unbind_operation → two_octets_at xs 3 ≡ Ok i → unbind_at xs 5 i ≡ Ok r → Laid xs r
    unfolding layout
    unbind_read i r o h b =
        let head = header_stands unbind_operation i m o h in
        let w = and_then_ok (reason_at xs 5) _ b in
        let w1 = and_then_ok (octet_at xs 5) _ w.1 in
        let reason = reason_octet_lem w1.0 w.0 (or_value_fault_ok _ 5 w1.2) in
        let end = ending_read xs 6 _ w.2 in
        let f1 = (octet_read xs octets 5 w1.0 w1.1).0.here ∙ (λ j. reason j ∷ end.0 j) in
        subst (Laid xs) end.1
        (head.0, sym (head.1 ∙ ap (λ l. invocation_header unbind_operation i ++ l) f1))

    abort_read : (r : Request) → octet_at xs 2 ≡ Ok abort_operation → abort_at xs 3 ≡ Ok r → Laid xs r
    unfolding layout
    abort_read r o b =
        let d = and_then_ok (octet_at xs 3) _ b in
        let end = ending_read xs 4 _ d.2 in
        let f0 = (two_octets_read xs octets 0 invocation_mark m).0.here in
        let f1 = (octet_read xs octets 2 abort_operation o).0.here in
        let f2 = octet_read xs octets 3 d.0 d.1 in
        subst (Laid xs) end.1 (
          omega (arith, f2.1),
          sym (f0 ∙ ap (λ l. two_octets invocation_mark ++ l) (f1 ∙ ap (λ l. abort_operation ∷ l) (f2.0.here ∙ ap (λ l. d.0 ∷ l) end.0))),
        )

    operation_read : (operation : ℕ) (r : Request) → octet_at xs 2 ≡ Ok operation → operation_in xs operation ≡ Ok r → Laid xs r
    operation_read operation r o h =
        let at : (n : ℕ) → eqb operation n ≡ true → octet_at xs 2 ≡ Ok n = λ n e. o ∙ ap Ok (eqb-true operation n e) in
        ⊎_elim (λ a. let i = and_then_ok (two_octets_at xs 3) _ a.1 in start_read i.0 r (at start_operation a.0) i.1 i.2)
        (λ a. ⊎_elim (λ b. let i = and_then_ok (two_octets_at xs 3) _ b.1 in stop_read i.0 r (at stop_operation b.0) i.1 i.2)
        (λ b. ⊎_elim (λ c. let i = and_then_ok (two_octets_at xs 3) _ c.1 in bind_read i.0 r (at bind_operation c.0) i.1 i.2)
        (λ c. ⊎_elim (λ d. let i = and_then_ok (two_octets_at xs 3) _ d.1 in unbind_read i.0 r (at unbind_operation d.0) i.1 i.2)
        (λ d. let e = cond_ok (eqb operation abort_operation) _ _ d.1 in abort_read r (at abort_operation e.0) e.1)
        (cond_cases (eqb operation unbind_operation) _ _ c.1))
        (cond_cases (eqb operation bind_operation) _ _ b.1))
        (cond_cases (eqb operation stop_operation) _ _ a.1))
        (cond_cases (eqb operation start_operation) _ _ h)

pub request_read : (xs : List ℕ) (r : Request) → Octets xs → request_in xs ≡ Ok r → WellFormedRequest r × (layout r ≡ xs)
unfolding request_in
request_read xs r octets h =
    let a = and_then_ok (two_octets_at xs 0) _ h in
    let b = cond_ok (eqb a.0 invocation_mark) _ _ a.2 in
    let c = and_then_ok (octet_at xs 2) _ b.1 in
    operation_read xs octets (a.1 ∙ ap Ok (eqb-true _ _ b.0)) c.0 r c.1 c.2
