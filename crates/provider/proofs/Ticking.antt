-- What a tick comes to.
use Rattle.std.proofs.Common.{◌≡◌, suc, ◌<◌, ◌≤◌, true, false, List, length, arith}
use Rattle.std.proofs.Math.Bool.{and-false}
use Rattle.std.proofs.lemmas.Bool.{lt-ltb, le-ltb}
use Rattle.codec.specs.Records.{Record}
use Rattle.histories.specs.Queues.{Queue}
use Rattle.histories.specs.Sessions.{Settings, Session, is_active, aged}
use Rattle.histories.specs.Calls.{says, quiet}
use Rattle.histories.specs.Delivery.{send, is_filled, tick_by}

pub empty_is : (rs : List Record) → length rs ≡ 0 → is_filled rs ≡ false
empty_is rs e = grind arith

pub filled_is : (rs : List Record) → 0 < length rs → is_filled rs ≡ true
filled_is rs p = grind arith

module _ (g : Settings) (s : Session) (transport : Queue) where
  pub tick_off : is_active s.phase ≡ false → tick_by g s transport ≡ says s quiet
  unfolding tick_by
  tick_off e = rw e

  pub tick_none : is_filled s.buffer ≡ false → tick_by g s transport ≡ says s quiet
  unfolding tick_by
  tick_none e = rw (e, and-false)

  module _ (on : is_active s.phase ≡ true) (filled : is_filled s.buffer ≡ true) where
    pub tick_young : suc s.age < g.latency_limit → tick_by g s transport ≡ says (aged (suc s.age) s) quiet
    unfolding tick_by
    tick_young h = let t = lt-ltb (suc s.age) g.latency_limit h in rw (on, filled, t)

    pub tick_old : g.latency_limit ≤ suc s.age → tick_by g s transport ≡ send (aged g.latency_limit s) transport
    unfolding tick_by
    tick_old h = let t = le-ltb (suc s.age) g.latency_limit h in rw (on, filled, t)
