-- How records leave: sending, tick and collection. Nothing here knows of the frame buffer.
use Rattle.std.specs.Prelude.{Bool, true, false, cond, ◌&&◌, List, [], ◌∷◌, ℕ, suc, nat_le, nat_lt, length, take, drop}
use Rattle.std.specs.List.{flat_map}
use Rattle.codec.specs.Records.{Record, encode}
use Rattle.histories.specs.Queues.{Queue, keep, add, drop_oldest}
use Rattle.histories.specs.Sessions.{Settings, Session, is_active, aged, holding}
use Rattle.histories.specs.Calls.{Outcome, says, refuses, waiting, sent, quiet, collected}

-- A transfer PDU: the octets of records, joined.
abbrev pub transfer_pdu : List Record → List ℕ
transfer_pdu rs = flat_map encode rs

-- The first k records of the transfer buffer are added to the transport as one PDU, or wait for room there.
unfoldable pub send_first : ℕ → Session → Queue → Outcome
send_first k s transport =
    let pdu : List ℕ = transfer_pdu (take k s.buffer) in
    cond (transport.room (length pdu))
    (record { answer = sent; copied = []; session = holding (drop k s.buffer) s; on_frames = keep; on_transport = add pdu })
    (says s waiting)

-- All of them are sent.
abbrev pub send : Session → Queue → Outcome
send s transport = send_first (length s.buffer) s transport

abbrev pub is_filled : List Record → Bool
is_filled [] = false
is_filled (r ∷ rs) = true

-- With one tick more the age is still below the limit.
abbrev pub is_young : Settings → Session → Bool
is_young g s = nat_lt (suc s.age) g.latency_limit

-- A tick while active, with records in the transfer buffer, makes them one tick older, to at most the limit; at the limit they are sent.
unfoldable pub tick_by : Settings → Session → Queue → Outcome
tick_by g s transport =
    cond (is_active s.phase && is_filled s.buffer)
    (cond (is_young g s)
    (says (aged (suc s.age) s) quiet)
    (send (aged g.latency_limit s) transport))
    (says s quiet)

-- A collection copies the oldest waiting PDU whole to the caller, and drops it.
abbrev pub collecting : Session → List ℕ → Outcome
collecting s pdu = record { answer = collected (length pdu); copied = pdu; session = s; on_frames = keep; on_transport = drop_oldest }

-- A collection into a buffer of n octets.
unfoldable pub collect_by : Session → ℕ → List (List ℕ) → Outcome
collect_by s n [] = refuses s 30
collect_by s n (pdu ∷ pdus) = cond (nat_le (length pdu) n) (collecting s pdu) (refuses s 34)
