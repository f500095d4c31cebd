-- An empty transport has room for the transfer buffer, and so ticks keep the latency limit.
use Rattle.std.proofs.Common.{◌≡◌, ℕ, suc, ◌<◌, ◌≤◌, true, false, List, [], ◌∷◌, map, length, sym, ap, subst, inl, inr, arith}
use Rattle.std.specs.List.{AllByRecursion}
use Rattle.std.proofs.ByRecursion.{All-weaker}
use Rattle.std.proofs.lemmas.Bool.{ltb-true, and_cases, both_ways, false≢true}
use Rattle.codec.specs.Records.{Record, WellFormed}
use Rattle.histories.specs.Sessions.{active, is_active}
use Rattle.histories.specs.Calls.{Outcome}
use Rattle.histories.specs.Delivery.{transfer_pdu, is_filled}
use Rattle.histories.specs.Provider.{State}
use Rattle.histories.specs.Ledger.{Entry, Ledger, older}
use Rattle.histories.proofs.Pdus.{pdu_bounds}
use Rattle.histories.proofs.Entries.{well_records}
use Rattle.histories.proofs.Invariant.{Inv, Within}
use Rattle.histories.proofs.Steps.{counts, young, none_pending}
use Rattle.histories.proofs.Outcomes.{Ticks, Change}
use Rattle.histories.proofs.Outcomes as does

abbrev pub Under : ℕ → Entry → Type 0
Under n e = e.ticks < n

pub filled : (rs : List Record) → is_filled rs ≡ true → 1 ≤ length rs
filled [] h = absurd (false≢true h)
filled (r ∷ rs) h = omega arith

module _ (l : Ledger) (s : State) (i : Inv l s) (empty : s.transport.held ≡ []) where
  pub has_room : 1 ≤ length s.session.buffer → s.transport.room (length (transfer_pdu s.session.buffer)) ≡ true
  has_room some =
      let well = subst (λ (x : List Record). AllByRecursion WellFormed x) (sym i.buffered.are) (well_records l.pending i.buffered.well) in
      let bounds = pdu_bounds s.session.buffer well in
      let few = i.buffered.few in
      let wide = i.fitting.wide in
      i.fitting.lawful.room_when_empty empty (length (transfer_pdu s.session.buffer)) (omega arith) (omega arith)

  pub punctual : s.session.phase ≡ active → {o : Outcome} {f : Change} → Ticks s o f → AllByRecursion (Under s.settings.latency_limit) (f l).pending
  punctual on (does.rests h) =
      subst (λ (x : Ledger). AllByRecursion (Under s.settings.latency_limit) x.pending) (sym (counts l s i on))
      (subst (λ (x : List Entry). AllByRecursion (Under s.settings.latency_limit) (map older x)) (sym (none_pending l s i gone)) tt)
    where
      gone : is_filled s.session.buffer ≡ false
      gone = elim (and_cases (is_active s.session.phase) (is_filled s.session.buffer) h) [ inl off ↦ absurd (both_ways (is_active s.session.phase) off (ap is_active on)) | inr e ↦ e ]
  punctual on (does.grows_older a h) =
      subst (λ (x : Ledger). AllByRecursion (Under s.settings.latency_limit) x.pending) (sym (counts l s i on))
      (All-weaker (Within (suc s.session.age)) (Under s.settings.latency_limit) (λ e w. let below = ltb-true (suc s.session.age) s.settings.latency_limit h in omega arith) (map older l.pending) (young l s i h))
  punctual on (Ticks.sends a) = tt
  punctual on (Ticks.waits a full) = absurd (both_ways (s.transport.room (length (transfer_pdu s.session.buffer))) full (has_room (filled s.session.buffer a.filled)))
