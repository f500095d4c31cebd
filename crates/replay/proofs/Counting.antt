-- The numbers of an account do not pass the number of answers that it has counted.
use Rattle.std.proofs.Common.{◌≡◌, ℕ, ◌+◌, ◌^◌, ◌<◌, ◌≤◌, sym, subst, arith}
use Rattle.histories.specs.Calls.{Answer}
use Rattle.histories.specs.Accounts.{Account, nothing, counted}
use Rattle.replay.specs.Accounts.{Fits, Becomes}

abbrev pub Bounded : Account → ℕ → Type 0
Bounded a n =
    (a.accepted_records ≤ n) × (a.untaken_records ≤ n) × (a.passed_records ≤ n)
    × (a.handed_over + (a.pending_records + a.discarded_records) ≤ n) × (a.sent_pdus ≤ n) × (a.collected_pdus ≤ n)

pub bounded_nothing : (a : Account) → a ≡ nothing → Bounded a 0
bounded_nothing a e = subst (λ (x : Account). Bounded x 0) (sym e) (omega arith, omega arith, omega arith, omega arith, omega arith, omega arith)

bounded_counted : (x : Answer) (a : Account) (n : ℕ) → Bounded a n → Bounded (counted x a) (n + 1)
bounded_counted x a n b = grind arith

fits : (a : Account) (n : ℕ) → Bounded a n → n < 2 ^ 64 → Fits a
fits a n b h = grind arith

-- so one answer more is counted, as long as the answers' number fits
pub one_counted : (x : Answer) (a a' : Account) (n : ℕ) → Bounded a n → n + 1 < 2 ^ 64 → Becomes (counted x a) a' → (a' ≡ counted x a) × Bounded a' (n + 1)
one_counted x a a' n b h becomes =
    let more = bounded_counted x a n b in
    let is : a' ≡ counted x a = becomes (fits (counted x a) (n + 1) more h) in
    (is, subst (λ (y : Account). Bounded y (n + 1)) (sym is) more)
