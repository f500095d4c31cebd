use Rattle.std.proofs.Common.{◌≡◌, ℕ, ◌≤◌, true, false, cond, List, take, sym, refl, ap, ◌∙◌, rules}
use Rattle.std.proofs.lemmas.List.{take-take}
use Rattle.std.specs.Result.{is_ok}
use Rattle.histories.specs.Calls.{sent, waiting}
use Rattle.histories.specs.Delivery.{transfer_pdu}
use Rattle.histories.specs.Sessions.{holding}
use Rattle.provider.specs.Held.{buffer_records}
use Rattle.provider.specs.Sessions.{session_of}
use Rattle.provider.specs.States.{state_of}
use Rattle.provider.specs.declared.transfer_buffer.TransferBuffer.{TransferBuffer}
use Rattle.provider.proofs.Claims.{answering}
use Rattle.provider.proofs.Queues.{added_if}
use Rattle.provider.proofs.Sending.{sending}
use Rattle.provider.proofs.provider.Provider.send_by.Goals as goal

-- the octets that are sent are the PDU of the buffer's records
pdu_is : (b : TransferBuffer) (n : ℕ) (front : List ℕ) → b.used ≤ n → front ≡ take n b.octets → take b.used front ≡ transfer_pdu (buffer_records b)
pdu_is b n front h is = ap (take b.used) is ∙ take-take b.used n b.octets h ∙ sym b.whole

pub returns-in_err-add : goal.returns-in_err-add
returns-in_err-add g c =
    let p = c.args.self.now in
    let q = g.T.Meaning in
    let pdu = pdu_is p.session.buffer g.row.SIZE c.front-front.result c.requires.holds c.front-front.ensures in
    let added = added_if q c.add.result p.transport c.add.new.self (take p.session.buffer.used c.front-front.result) c.add.ensures.answer c.add.ensures.left in
    let failed : is_ok c.from_residual.result ≡ false = search rules in
    answering (ap (λ b. cond b sent waiting) (sym failed))
    (sending (state_of g.F.Meaning q p) _ false _ pdu (rw c.in_err-add.was at added) refl refl refl refl)

pub returns : goal.returns
returns g c =
    let p = c.args.self.now in
    let q = g.T.Meaning in
    let pdu = pdu_is p.session.buffer g.row.SIZE c.front-front.result c.requires.holds c.front-front.ensures in
    let added = added_if q c.add.result p.transport c.add.new.self (take p.session.buffer.used c.front-front.result) c.add.ensures.answer c.add.ensures.left in
    sending (state_of g.F.Meaning q p) _ true _ pdu (rw c.in_ok-add.was at added) refl refl (ap (λ rs. holding rs (session_of p.session)) c.clear.ensures.none) refl
