-- The order of times.
use Rattle.std.proofs.Common.{◌≡◌, ◌⊎◌, inl, inr, sym, refl, ap}
use Rattle.std.specs.Cmp.{IsTotalOrder}
use Rattle.std.specs.Ordering.{nat_cmp, ordering_then}
use Rattle.std.specs.declared.cmp.Ordering.{Ordering}
use Rattle.std.specs.declared.cmp.Ordering.TheVariants.{Less, Equal, Greater}
use Rattle.std.proofs.lemmas.Cmp.{ranked, nat_cmp_total, on_total, then_total}
use Rattle.codec.specs.Times.{Stamp, compared, stamp_octets}
use Rattle.codec_laws.specs.Laws.{TimesAreOrdered}

compared_total : IsTotalOrder compared
compared_total =
    then_total (on_total (λ (t : Stamp). t.day) nat_cmp_total)
    (then_total (on_total (λ (t : Stamp). t.millisecond) nat_cmp_total) (on_total (λ (t : Stamp). t.microsecond) nat_cmp_total))

both_equal : (o next : Ordering) → ordering_then o next ≡ Equal → (o ≡ Equal) × (next ≡ Equal)
both_equal Less next h = cc
both_equal Equal next h = (refl, h)
both_equal Greater next h = cc

compared_same : (a b : Stamp) → compared a b ≡ Equal → a ≡ b
compared_same a b h =
    let d = both_equal (nat_cmp a.day b.day) _ h in
    let m = both_equal (nat_cmp a.millisecond b.millisecond) (nat_cmp a.microsecond b.microsecond) d.1 in
    let days = ranked a.day b.day Equal (sym d.0) in
    let milliseconds = ranked a.millisecond b.millisecond Equal (sym m.0) in
    let microseconds = ranked a.microsecond b.microsecond Equal (sym m.1) in
    (λ i. record { day = days i; millisecond = milliseconds i; microsecond = microseconds i })

answers : (o : Ordering) → (o ≡ Less) ⊎ ((o ≡ Equal) ⊎ (o ≡ Greater))
answers Less = inl refl
answers Equal = inr (inl refl)
answers Greater = inr (inr refl)

pub times_are_ordered : TimesAreOrdered
times_are_ordered = record {
  total = λ a b. answers (compared a b);
  swapped = λ a b. compared_total.antisymm b a;
  transitive = compared_total.trans;
  same = compared_same;
  octets = λ a b h. ap stamp_octets (compared_same a b h);
}
