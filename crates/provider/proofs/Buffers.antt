-- A transfer buffer with one record more, and an empty one.
use Rattle.std.proofs.Common.{◌≡◌, ℕ, ◌+◌, ◌*◌, ◌<◌, ◌≤◌, Bool, true, cond, List, [], ◌∷◌, ◌++◌, length, take, drop, Some, None, filter, Option, sym, refl, ap, ◌∙◌, append_assoc, append-nil, arith, length-append, length-drop}
use Rattle.std.specs.List.{flat_map, AllByRecursion}
use Rattle.std.proofs.lemmas.List.{take_at, length-take-le}
use Rattle.std.proofs.lemmas.List.Elements.{filter-append}
use Rattle.std.proofs.lemmas.Bool.{and_parts, leb-true, le-leb}
use Rattle.codec.specs.Limits.{longest_record, data_limit}
use Rattle.codec.specs.Times.{timely}
use Rattle.codec.specs.Records.{Record, frame, loss, status, end_of_data, encode, WellFormed, data_length_allowed}
use Rattle.codec.specs.RecordReading.{Content, content_of, content_if, records_in, one_record}
use Rattle.codec_laws.proofs.RecordsJoined.{records_written, joined_append}
use Rattle.codec.proofs.RecordsWritten.{encode_limit}
use Rattle.codec_laws.proofs.OneRecord.{one_record_read}
use Rattle.histories.specs.Invocations.{is_accepted}
use Rattle.histories.specs.Provider.{most_records}
use Rattle.provider.specs.Buffers.{buffer_octets, records_or_none, records_held, well_formed, all_well_formed, accepted_count, accepted_content, record_list}

pub none_held : (octets : List ℕ) → records_held octets 0 ≡ []
unfolding records_in
none_held octets = refl

well_one : (r : Record) → well_formed r ≡ true → WellFormed r
well_one (frame q t d) e =
    let p = and_parts (timely t) (data_length_allowed (length d)) e in
    let n = and_parts _ _ p.1 in
    (p.0, leb-true 1 (length d) n.0, leb-true (length d) data_limit n.1)
well_one (loss t) e = e
well_one (status v) e = tt
well_one end_of_data e = tt

one_well : (r : Record) → WellFormed r → well_formed r ≡ true
one_well (frame q t d) w =
    let a = w.0 in
    let b = le-leb 1 (length d) w.1 in
    let c = le-leb (length d) data_limit w.2 in
    rw (a, b, c)
one_well (loss t) w = w
one_well (status v) w = refl
one_well end_of_data w = refl

all_well : (rs : List Record) → all_well_formed rs ≡ true → AllByRecursion WellFormed rs
all_well [] e = tt
all_well (r ∷ rs) e = let p = and_parts (well_formed r) (all_well_formed rs) e in (well_one r p.0, all_well rs p.1)

well_more : (rs : List Record) (r : Record) → all_well_formed rs ≡ true → well_formed r ≡ true → all_well_formed (rs ++ (r ∷ [])) ≡ true
well_more [] r e w = rw w
well_more (x ∷ rs) r e w =
    let p = and_parts (well_formed x) (all_well_formed rs) e in
    let a = p.0 in
    let b = well_more rs r p.1 w in
    rw (a, b)

-- well-formed records are short enough
joined_short : (rs : List Record) → AllByRecursion WellFormed rs → length (flat_map encode rs) ≤ length rs * longest_record
joined_short [] w = omega arith
joined_short (r ∷ rs) w =
    let one = encode_limit r w.0 in
    let more = joined_short rs w.1 in
    simp length-append (omega arith)

pub accepted_is : (r : Record) → accepted_content (content_of r) ≡ is_accepted r
accepted_is r = grind arith

one_kept : (b : Bool) (r : Record) → length (cond b (r ∷ []) []) ≡ cond b 1 0
one_kept b r = grind arith

pub one_of : (xs : List ℕ) (c : Content) → Some c ≡ content_if (one_record xs) → (r : Record) × (one_record xs ≡ Some r) × (content_of r ≡ c)
one_of xs c e = from (one_record xs) e refl
  where
    from : (o : Option Record) → Some c ≡ content_if o → one_record xs ≡ o → (r : Record) × (one_record xs ≡ Some r) × (content_of r ≡ c)
    from (Some r) f is = (r, is, cc)
    from None f is = absurd (cc)

-- a buffer's facts, and those of the buffer with one record more
module _ (octets : List ℕ) (used : ℕ) (whole : flat_map encode (records_held octets used) ≡ take used octets) (well : all_well_formed (records_held octets used) ≡ true)
    (within : used ≤ length octets) where
  abbrev rs : List Record
  rs = records_held octets used

  pub used_short : used ≤ length rs * longest_record
  used_short =
      let l = length-take-le used octets within in
      let s = joined_short rs (all_well rs well) in
      omega (arith, ap length whole)

  module _ (xs : List ℕ) (r : Record) (one : one_record xs ≡ Some r) where
    good : WellFormed r
    good = (one_record_read xs r one).0

    pub record_short : length xs ≤ longest_record
    record_short = omega (arith, encode_limit r good, ap length (one_record_read xs r one).1)

    abbrev after : List ℕ
    after = take used octets ++ (xs ++ drop (used + length xs) octets)

    front : take (used + length xs) after ≡ flat_map encode (rs ++ (r ∷ []))
    front =
        let l = length-take-le used octets within in
        let group : after ≡ (take used octets ++ xs) ++ drop (used + length xs) octets = sym (append_assoc (take used octets) xs (drop (used + length xs) octets)) in
        let size : length (take used octets ++ xs) ≡ used + length xs = simp length-append (omega arith) in
        let last : flat_map encode (r ∷ []) ≡ xs = append-nil (encode r) ∙ (one_record_read xs r one).1 in
        ap (take (used + length xs)) group ∙ take_at (take used octets ++ xs) (drop (used + length xs) octets) (used + length xs) size
        ∙ (λ i. sym whole i ++ sym last i) ∙ sym (joined_append rs (r ∷ []))

    more_well : all_well_formed (rs ++ (r ∷ [])) ≡ true
    more_well = well_more rs r well (one_well r good)

    pub more_held : records_held after (used + length xs) ≡ rs ++ (r ∷ [])
    more_held = ap records_or_none (ap records_in front ∙ records_written (rs ++ (r ∷ [])) (all_well (rs ++ (r ∷ [])) more_well))

    pub more_whole : flat_map encode (records_held after (used + length xs)) ≡ take (used + length xs) after
    more_whole = ap (flat_map encode) more_held ∙ sym front

    pub still_well : all_well_formed (records_held after (used + length xs)) ≡ true
    still_well = ap all_well_formed more_held ∙ more_well

    pub more_counted : length (records_held after (used + length xs)) ≡ length rs + 1
    more_counted = ap length more_held ∙ length-append rs (r ∷ [])

    pub more_accepted : accepted_count (records_held after (used + length xs)) ≡ accepted_count rs + cond (is_accepted r) 1 0
    more_accepted =
        ap accepted_count more_held ∙ ap length (filter-append is_accepted rs (r ∷ [])) ∙ length-append (filter is_accepted rs) (filter is_accepted (r ∷ []))
        ∙ ap (λ n. accepted_count rs + n) (one_kept (is_accepted r) r)

    pub length_after : used + length xs ≤ length octets → length after ≡ length octets
    length_after fits = let l = length-take-le used octets within in simp (length-append, length-drop) (omega arith)

-- what a transfer buffer promises of its fields
pub record Kept (octets : List ℕ) (used count accepted : ℕ) : Type 0 where
  pub size : length octets ≡ buffer_octets
  pub within : used ≤ buffer_octets
  pub few : count ≤ most_records
  pub whole : flat_map encode (records_held octets used) ≡ take used octets
  pub well : all_well_formed (records_held octets used) ≡ true
  pub counted : count ≡ length (records_held octets used)
  pub told : accepted ≡ accepted_count (records_held octets used)

-- with no records
pub emptied : (octets : List ℕ) → length octets ≡ buffer_octets → Kept octets 0 0 0
emptied octets size =
    let none = none_held octets in
    record {
      size = size;
      within = omega arith;
      few = omega arith;
      whole = ap (flat_map encode) none;
      well = ap all_well_formed none;
      counted = sym (ap length none);
      told = sym (ap accepted_count none);
    }

module _ (octets : List ℕ) (used count accepted : ℕ) (kept : Kept octets used count accepted) where
  in_octets : used ≤ length octets
  in_octets = omega (arith, kept.size, kept.within)

  -- there is room for one more record
  pub room_for_one : (xs : List ℕ) (c : Content) → Some c ≡ content_if (one_record xs) → count < most_records → used + length xs ≤ buffer_octets
  room_for_one xs c one few =
      let o = one_of xs c one in
      omega (arith, used_short octets used kept.whole kept.well in_octets, record_short octets used kept.whole kept.well in_octets xs o.0 o.1, kept.counted)

  pub pushed : (octets' xs : List ℕ) (c : Content) (weight : ℕ) → Some c ≡ content_if (one_record xs) → count < most_records
      → octets' ≡ take used octets ++ (xs ++ drop (used + length xs) octets) → weight ≡ cond (accepted_content c) 1 0
      → Kept octets' (used + length xs) (count + 1) (accepted + weight) × (records_held octets' (used + length xs) ≡ records_held octets used ++ record_list (one_record xs))
  pushed octets' xs c weight one few is w =
      let o = one_of xs c one in
      let r = o.0 in
      let n = used + length xs in
      let fits = room_for_one xs c one few in
      let weight_is : weight ≡ cond (is_accepted r) 1 0 = w ∙ ap (λ x. cond (accepted_content x) 1 0) (sym o.2) ∙ ap (λ b. cond b 1 0) (accepted_is r) in
      let held = ap (λ q. records_held q n) is in
      let size_kept : used + length xs ≤ length octets = omega (arith, kept.size) in (
        record {
          size = ap length is ∙ length_after octets used kept.whole kept.well in_octets xs r o.1 size_kept ∙ kept.size;
          within = fits;
          few = omega arith;
          whole = ap (flat_map encode) held ∙ more_whole octets used kept.whole kept.well in_octets xs r o.1 ∙ ap (take n) (sym is);
          well = ap all_well_formed held ∙ still_well octets used kept.whole kept.well in_octets xs r o.1;
          counted = ap (λ q. q + 1) kept.counted ∙ sym (ap length held ∙ more_counted octets used kept.whole kept.well in_octets xs r o.1);
          told = (λ i. kept.told i + weight_is i) ∙ sym (ap accepted_count held ∙ more_accepted octets used kept.whole kept.well in_octets xs r o.1);
        },
        held ∙ more_held octets used kept.whole kept.well in_octets xs r o.1 ∙ ap (λ q. records_held octets used ++ record_list q) (sym o.1),
      )

pick : (b : Bool) (m n k : ℕ) → m ≤ k → n ≤ k → cond b m n ≤ k
pick b m n k h l = grind arith

some_length : (b : Bool) (r : Record) (rs : List Record) → length (cond b (r ∷ rs) rs) ≤ length rs + 1
some_length b r rs = grind arith

kept_few : (rs : List Record) → accepted_count rs ≤ length rs
kept_few [] = omega arith
kept_few (r ∷ rs) = let one = some_length (is_accepted r) r (filter is_accepted rs) in let more = kept_few rs in omega arith

-- the accepted records are no more than all, and one more is at most one more
pub accepted_small : (octets : List ℕ) (used count accepted weight : ℕ) (c : Content) → Kept octets used count accepted → weight ≡ cond (accepted_content c) 1 0 → accepted + weight ≤ most_records + 1
accepted_small octets used count accepted weight c kept w =
    let few = kept_few (records_held octets used) in
    let one = pick (accepted_content c) 1 0 1 (omega arith) (omega arith) in
    omega (arith, kept.told, kept.counted, kept.few)
