-- A field that stands at a place as it was written reads as what was written.
use Rattle.std.proofs.Common.{◌≡◌, ℕ, ◌+◌, ◌*◌, ◌/◌, ◌%◌, ◌<◌, ◌≤◌, true, ◌&&◌, leb, List, ◌∷◌, ◌++◌, length, get_or, take, drop, Ok, sym, refl, ap, ◌∙◌, arith, length-append}
use Rattle.std.proofs.lemmas.List.{get_or-drop, length-drop, drop-drop, drop_at, take_at}
use Rattle.std.proofs.lemmas.Bool.{le-leb, leb-true, and_parts}
use Rattle.codec.specs.Limits.{day_limit, millisecond_limit, microsecond_limit, two_octet_limit}
use Rattle.codec.specs.Times.{Stamp, timely, zero_stamp, two_octets, four_octets, stamp_octets}
use Rattle.codec.specs.Fields.{octet_at, two_octets_at, four_octets_at, stamp_at, zero_stamp_at}

-- the octets of a number make the number again
pub two_octets_back : (n : ℕ) → n ≤ two_octet_limit → (n / 256 % 256) * 256 + n % 256 ≡ n
two_octets_back n h = omega arith

digits : (a b c d x y z n : ℕ) → z * 256 + d ≡ n → y * 256 + c ≡ z → x * 256 + b ≡ y → a ≡ x → a * 16777216 + b * 65536 + c * 256 + d ≡ n
digits a b c d x y z n h k l m = omega arith

pub four_octets_back : (n : ℕ) → n < 4294967296 → (n / 16777216 % 256) * 16777216 + (n / 65536 % 256) * 65536 + (n / 256 % 256) * 256 + n % 256 ≡ n
four_octets_back n h =
    let p : n / 65536 ≡ n / 256 / 256 = omega arith in
    let q : n / 16777216 ≡ n / 65536 / 256 = omega arith in
    let c : n / 256 * 256 + n % 256 ≡ n = omega arith in
    let b : n / 65536 * 256 + n / 256 % 256 ≡ n / 256 = omega arith in
    let a : n / 16777216 * 256 + n / 65536 % 256 ≡ n / 65536 = omega arith in
    let o : n / 16777216 % 256 ≡ n / 16777216 = omega arith in
    digits (n / 16777216 % 256) (n / 65536 % 256) (n / 256 % 256) (n % 256) (n / 16777216) (n / 65536) (n / 256) n c b a o

-- what stands at a place, by its octets and by how far it goes
pub octet_there : (ys zs : List ℕ) (at k : ℕ) → drop at ys ≡ zs → get_or ys (at + k) 0 ≡ get_or zs k 0
octet_there ys zs at k e = sym (get_or-drop at ys k 0) ∙ ap (λ l. get_or l k 0) e

first_there : (ys zs : List ℕ) (at : ℕ) → drop at ys ≡ zs → get_or ys at 0 ≡ get_or zs 0 0
first_there ys zs at e = let z : at ≡ at + 0 = omega arith in ap (λ k. get_or ys k 0) z ∙ octet_there ys zs at 0 e

pub reaches : (ys zs : List ℕ) (at : ℕ) → drop at ys ≡ zs → 1 ≤ length zs → at + length zs ≡ length ys
reaches ys zs at e h = omega (arith, length-drop at ys, ap length e)

-- what stands behind it
pub behind : (ys zs s : List ℕ) (at n : ℕ) → drop at ys ≡ zs ++ s → length zs ≡ n → drop (at + n) ys ≡ s
behind ys zs s at n e l = sym (drop-drop n at ys) ∙ ap (drop n) e ∙ drop_at zs s n l

pub octet_written : (ys s : List ℕ) (n at : ℕ) → drop at ys ≡ n ∷ s → octet_at ys at ≡ Ok n
octet_written ys s n at e =
    let far = reaches ys (n ∷ s) at e (omega arith) in
    let a : get_or ys at 0 ≡ n = first_there ys (n ∷ s) at e in
    let t = le-leb (at + 1) (length ys) (omega arith) in
    rw (t, a)

pub two_octets_written : (ys s : List ℕ) (n at : ℕ) → drop at ys ≡ two_octets n ++ s → n ≤ two_octet_limit → two_octets_at ys at ≡ Ok n
two_octets_written ys s n at e h =
    let z = two_octets n ++ s in
    let far = reaches ys z at e (omega arith) in
    let a : get_or ys at 0 ≡ n / 256 % 256 = first_there ys z at e in
    let b : get_or ys (at + 1) 0 ≡ n % 256 = octet_there ys z at 1 e in
    let t = le-leb (at + 2) (length ys) (omega arith) in
    rw (t, a, b) (ap Ok (two_octets_back n h))

pub four_octets_written : (ys s : List ℕ) (n at : ℕ) → drop at ys ≡ four_octets n ++ s → n < 4294967296 → four_octets_at ys at ≡ Ok n
four_octets_written ys s n at e h =
    let z = four_octets n ++ s in
    let far = reaches ys z at e (omega arith) in
    let a : get_or ys at 0 ≡ n / 16777216 % 256 = first_there ys z at e in
    let b : get_or ys (at + 1) 0 ≡ n / 65536 % 256 = octet_there ys z at 1 e in
    let c : get_or ys (at + 2) 0 ≡ n / 256 % 256 = octet_there ys z at 2 e in
    let d : get_or ys (at + 3) 0 ≡ n % 256 = octet_there ys z at 3 e in
    let t = le-leb (at + 4) (length ys) (omega arith) in
    rw (t, a, b, c, d) (ap Ok (four_octets_back n h))

-- a block of n octets
pub block_written : (ys zs s : List ℕ) (at n : ℕ) → drop at ys ≡ zs ++ s → length zs ≡ n → 1 ≤ n → (at + n ≤ length ys) × (take n (drop at ys) ≡ zs)
block_written ys zs s at n e l h =
    let far = reaches ys (zs ++ s) at e (omega (arith, length-append zs s)) in
    (omega (arith, length-append zs s), ap (take n) e ∙ take_at zs s n l)

-- the limits of a timely stamp
pub record Within (t : Stamp) : Type 0 where
  pub days : t.day ≤ day_limit
  pub milliseconds : t.millisecond ≤ millisecond_limit
  pub microseconds : t.microsecond ≤ microsecond_limit

pub within : (t : Stamp) → timely t ≡ true → Within t
within t h =
    let a = and_parts (leb t.day day_limit) (leb t.millisecond millisecond_limit && leb t.microsecond microsecond_limit) h in
    let b = and_parts (leb t.millisecond millisecond_limit) (leb t.microsecond microsecond_limit) a.1 in
    record { days = leb-true _ _ a.0; milliseconds = leb-true _ _ b.0; microseconds = leb-true _ _ b.1 }

pub stamp_written : (ys s : List ℕ) (t : Stamp) (at : ℕ) → drop at ys ≡ stamp_octets t ++ s → timely t ≡ true → stamp_at ys at ≡ Ok t
stamp_written ys s t at e g =
    let w = within t g in
    let d = t.day in
    let m = t.millisecond in
    let u = t.microsecond in
    let e1 = two_octets_written ys (four_octets m ++ (two_octets u ++ s)) d at e w.days in
    let f2 = behind ys (two_octets d) (four_octets m ++ (two_octets u ++ s)) at 2 e refl in
    let e2 = four_octets_written ys (two_octets u ++ s) m (at + 2) f2 (omega (arith, w.milliseconds)) in
    let f3 = behind ys (two_octets d ++ four_octets m) (two_octets u ++ s) at 6 e refl in
    let e3 = two_octets_written ys s u (at + 6) f3 (omega (arith, w.microseconds)) in
    let t1 = le-leb m millisecond_limit w.milliseconds in
    let t2 = le-leb u microsecond_limit w.microseconds in
    rw (e1, e2, t1, e3, t2)

pub zero_stamp_written : (ys s : List ℕ) (at : ℕ) → drop at ys ≡ stamp_octets zero_stamp ++ s → zero_stamp_at ys at ≡ Ok tt
zero_stamp_written ys s at e =
    let e1 = two_octets_written ys (four_octets 0 ++ (two_octets 0 ++ s)) 0 at e (omega arith) in
    let e2 = four_octets_written ys (two_octets 0 ++ s) 0 (at + 2) (behind ys (two_octets 0) (four_octets 0 ++ (two_octets 0 ++ s)) at 2 e refl) (omega arith) in
    let e3 = two_octets_written ys s 0 (at + 6) (behind ys (two_octets 0 ++ four_octets 0) (two_octets 0 ++ s) at 6 e refl) (omega arith) in
    rw (e1, e2, e3)
