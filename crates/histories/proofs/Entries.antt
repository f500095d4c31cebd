-- What holds of lists of accepted records and entries: order of acceptance, whose entries they are, what is due.
use Rattle.std.proofs.Common.{◌≡◌, ℕ, zero, suc, ◌≤◌, Bool, true, false, cond, eqb, List, [], ◌∷◌, ◌++◌, map, length, Some, None, filter, Option, sym, refl, ap, ◌∙◌, subst, append_assoc, append-nil, arith}
use Rattle.std.specs.List.{AllByRecursion}
use Rattle.std.proofs.lemmas.List.{length_push}
use Rattle.std.proofs.ByRecursion.{All-push, All-weaker}
use Rattle.std.proofs.lemmas.Bool.{cond-true, cond-false, ne_eqb, eq-eqb}
use Rattle.codec.specs.Records.{Record, WellFormed}
use Rattle.histories.specs.Sessions.{Selection, late, selected}
use Rattle.histories.specs.Invocations.{is_accepted}
use Rattle.histories.specs.Ledger.{Acceptance, Entry, content_of, acceptances, own_acceptances, accepted_as, record_of_content, record_of, older}
use Rattle.histories.specs.Statements.{RisesFrom, due}

-- numbers rise from b and stay below e
abbrev pub Rises : ℕ → List Acceptance → ℕ → Type 0
Rises b [] e = b ≤ e
Rises b (a ∷ more) e = (b ≤ a.number) × Rises (suc a.number) more e

rises_lower : (a b e : ℕ) (xs : List Acceptance) → a ≤ b → Rises b xs e → Rises a xs e
rises_lower a b e [] h r = omega arith
rises_lower a b e (x ∷ xs) h r = (omega arith, r.1)

rises_skip : (b e : ℕ) (xs ys : List Acceptance) → Rises b (xs ++ ys) e → Rises b ys e
rises_skip b e [] ys r = r
rises_skip b e (x ∷ xs) ys r = rises_lower b (suc x.number) e ys (omega arith) (rises_skip (suc x.number) e xs ys r.1)

rises_cut : (b e : ℕ) (xs ys zs : List Acceptance) → Rises b (xs ++ (ys ++ zs)) e → Rises b (xs ++ zs) e
rises_cut b e [] ys zs r = rises_skip b e ys zs r
rises_cut b e (x ∷ xs) ys zs r = (r.0, rises_cut (suc x.number) e xs ys zs r.1)

rises_push : (b e : ℕ) (xs : List Acceptance) (a : Acceptance) → a.number ≡ e → Rises b xs e → Rises b (xs ++ a ∷ []) (suc e)
rises_push b e [] a h r = (omega arith, omega arith)
rises_push b e (x ∷ xs) a h r = (r.0, rises_push (suc x.number) e xs a h r.1)

pub rises_front : (b e : ℕ) (xs ys : List Acceptance) → Rises b (xs ++ ys) e → RisesFrom b xs
rises_front b e [] ys r = tt
rises_front b e (x ∷ xs) ys r = (r.0, rises_front (suc x.number) e xs ys r.1)

-- what bears a number is the record accepted under it
abbrev pub Genuine : List Record → Acceptance → Type 0
Genuine rs a = accepted_as rs a.number ≡ Some a.value

-- accepted records in order of acceptance
abbrev pub Line : List Record → List Acceptance → Type 0
Line rs xs = Rises 0 xs (length rs) × AllByRecursion (Genuine rs) xs

accepted_more : (rs : List Record) (r x : Record) (n : ℕ) → accepted_as rs n ≡ Some x → accepted_as (rs ++ r ∷ []) n ≡ Some x
accepted_more [] r x n e = cc
accepted_more (y ∷ rs) r x zero e = e
accepted_more (y ∷ rs) r x (suc n) e = accepted_more rs r x n e

accepted_last : (rs : List Record) (r : Record) → accepted_as (rs ++ r ∷ []) (length rs) ≡ Some r
accepted_last [] r = refl
accepted_last (y ∷ rs) r = accepted_last rs r

pub genuine_push : (rs : List Record) (r : Record) (xs : List Acceptance) → AllByRecursion (Genuine rs) xs → AllByRecursion (Genuine (rs ++ r ∷ [])) (xs ++ record { number = length rs; value = r } ∷ [])
genuine_push rs r xs g =
    All-push (Genuine (rs ++ r ∷ [])) xs (record { number = length rs; value = r })
    (All-weaker (Genuine rs) (Genuine (rs ++ r ∷ [])) (λ x h. accepted_more rs r x.value x.number h) xs g)
    (accepted_last rs r)

pub line_push : (rs : List Record) (r : Record) (xs : List Acceptance) → Line rs xs → Line (rs ++ r ∷ []) (xs ++ record { number = length rs; value = r } ∷ [])
line_push rs r xs l =
    let a : Acceptance = record { number = length rs; value = r } in
    (subst (λ (n : ℕ). Rises 0 (xs ++ a ∷ []) n) (omega (arith, length_push rs r)) (rises_push 0 (length rs) xs a refl l.0), genuine_push rs r xs l.1)

all_cut : {X : Type 0} (P : X → Type 0) (xs ys zs : List X) → AllByRecursion P (xs ++ (ys ++ zs)) → AllByRecursion P (xs ++ zs)
all_cut P [] [] zs a = a
all_cut P [] (y ∷ ys) zs a = all_cut P [] ys zs a.1
all_cut P (x ∷ xs) ys zs a = (a.0, all_cut P xs ys zs a.1)

pub line_cut : (rs : List Record) (xs ys zs : List Acceptance) → Line rs (xs ++ (ys ++ zs)) → Line rs (xs ++ zs)
line_cut rs xs ys zs l = (rises_cut 0 (length rs) xs ys zs l.0, all_cut (Genuine rs) xs ys zs l.1)

pub all_front : {X : Type 0} (P : X → Type 0) (xs ys : List X) → AllByRecursion P (xs ++ ys) → AllByRecursion P xs
all_front P [] ys a = tt
all_front P (x ∷ xs) ys a = (a.0, all_front P xs ys a.1)

pub all_back : {X : Type 0} (P : X → Type 0) (xs ys : List X) → AllByRecursion P (xs ++ ys) → AllByRecursion P ys
all_back P [] ys a = a
all_back P (x ∷ xs) ys a = all_back P xs ys a.1

pub acceptances_append : (xs ys : List Entry) → acceptances (xs ++ ys) ≡ acceptances xs ++ acceptances ys
acceptances_append [] ys = refl
acceptances_append (x ∷ xs) ys =
    ap (λ (r : List Acceptance). content_of x.content ++ r) (acceptances_append xs ys)
    ∙ sym (append_assoc (content_of x.content) (acceptances xs) (acceptances ys))

abbrev own_content : ℕ → Entry → List Acceptance
own_content n e = cond (eqb e.run n) (content_of e.content) []

pub own_append : (n : ℕ) (xs ys : List Entry) → own_acceptances n (xs ++ ys) ≡ own_acceptances n xs ++ own_acceptances n ys
own_append n [] ys = refl
own_append n (x ∷ xs) ys =
    ap (λ (r : List Acceptance). own_content n x ++ r) (own_append n xs ys)
    ∙ sym (append_assoc (own_content n x) (own_acceptances n xs) (own_acceptances n ys))

pub acceptances_older : (xs : List Entry) → acceptances (map older xs) ≡ acceptances xs
acceptances_older [] = refl
acceptances_older (x ∷ xs) = ap (λ (r : List Acceptance). content_of x.content ++ r) (acceptances_older xs)

pub own_older : (n : ℕ) (xs : List Entry) → own_acceptances n (map older xs) ≡ own_acceptances n xs
own_older n [] = refl
own_older n (x ∷ xs) = ap (λ (r : List Acceptance). own_content n x ++ r) (own_older n xs)

-- put in by a run up to n
abbrev pub Upto : ℕ → Entry → Type 0
Upto n e = e.run ≤ n

-- a run that has just begun has put nothing in
pub own_none : (n : ℕ) (xs : List Entry) → AllByRecursion (Upto n) xs → own_acceptances (suc n) xs ≡ []
own_none n [] a = refl
own_none n (x ∷ xs) a =
    let e : own_content (suc n) x ≡ [] = cond-false (eqb x.run (suc n)) _ _ (ne_eqb x.run (suc n) (λ h. omega arith)) in
    ap (λ (r : List Acceptance). r ++ own_acceptances (suc n) xs) e ∙ own_none n xs a.1

pub own_one : (n : ℕ) (o : Option Acceptance) (t : ℕ) → own_acceptances n (record { content = o; run = n; ticks = t } ∷ []) ≡ content_of o
own_one n o t = append-nil (cond (eqb n n) (content_of o) []) ∙ cond-true (eqb n n) (content_of o) [] (eq-eqb n n refl)

abbrev pub is_selected : Selection → Acceptance → Bool
is_selected c a = selected c a.value

abbrev pub InTime : Selection → Acceptance → Type 0
InTime c a = late c a.value ≡ false

abbrev pub LateFirst : Selection → List Acceptance → Type 0
LateFirst c [] = ⊥
LateFirst c (a ∷ more) = late c a.value ≡ true

pub late_first_push : (c : Selection) (xs : List Acceptance) (a : Acceptance) → LateFirst c xs → LateFirst c (xs ++ a ∷ [])
late_first_push c [] a h = absurd h
late_first_push c (x ∷ xs) a h = h

pub due_late : (c : Selection) (xs : List Acceptance) → LateFirst c xs → due c xs ≡ []
due_late c [] h = absurd h
due_late c (x ∷ xs) h = cond-true (late c x.value) _ _ h

cond_front : (b : Bool) (a : Acceptance) (xs ys : List Acceptance) → cond b (a ∷ (xs ++ ys)) (xs ++ ys) ≡ cond b (a ∷ xs) xs ++ ys
cond_front true a xs ys = refl
cond_front false a xs ys = refl

pub due_append : (c : Selection) (xs ys : List Acceptance) → AllByRecursion (InTime c) xs → due c (xs ++ ys) ≡ filter (is_selected c) xs ++ due c ys
due_append c [] ys a = refl
due_append c (x ∷ xs) ys a =
    cond-false (late c x.value) _ _ a.0
    ∙ ap (λ (r : List Acceptance). cond (is_selected c x) (x ∷ r) r) (due_append c xs ys a.1)
    ∙ cond_front (is_selected c x) x (filter (is_selected c) xs) (due c ys)

-- well formed, and no end of data
abbrev pub WellAccepted : Acceptance → Type 0
WellAccepted a = WellFormed a.value × (is_accepted a.value ≡ true)

abbrev pub WellEntered : Entry → Type 0
WellEntered e = AllByRecursion WellAccepted (content_of e.content)

well_content : (o : Option Acceptance) → AllByRecursion WellAccepted (content_of o) → WellFormed (record_of_content o)
well_content None w = tt
well_content (Some a) w = w.0.0

pub well_records : (es : List Entry) → AllByRecursion WellEntered es → AllByRecursion WellFormed (map record_of es)
well_records [] w = tt
well_records (e ∷ es) w = (well_content e.content w.0, well_records es w.1)

pub well_older : (es : List Entry) → AllByRecursion WellEntered es → AllByRecursion WellEntered (map older es)
well_older [] w = tt
well_older (e ∷ es) w = (w.0, well_older es w.1)

pub records_older : (es : List Entry) → map record_of (map older es) ≡ map record_of es
records_older [] = refl
records_older (e ∷ es) = ap (λ (r : List Record). record_of e ∷ r) (records_older es)

-- how many accepted records entries have
count_content : (o : Option Acceptance) (rs : List Record) (xs : List Acceptance) → AllByRecursion WellAccepted (content_of o) → length (filter is_accepted rs) ≡ length xs
    → length (filter is_accepted (record_of_content o ∷ rs)) ≡ length (content_of o ++ xs)
count_content None rs xs w h = h
count_content (Some a) rs xs w h = ap (λ (x : List Record). length x) (cond-true (is_accepted a.value) _ _ w.0.1) ∙ ap suc h

pub count_acceptances : (es : List Entry) → AllByRecursion WellEntered es → length (filter is_accepted (map record_of es)) ≡ length (acceptances es)
count_acceptances [] w = refl
count_acceptances (e ∷ es) w = count_content e.content (map record_of es) (acceptances es) w.0 (count_acceptances es w.1)
