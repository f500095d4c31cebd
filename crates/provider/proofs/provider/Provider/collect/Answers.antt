use Rattle.std.proofs.Common.{◌≡◌, length, Err, sym, refl, ap, ◌∙◌, arith, rules}
use Rattle.queue.specs.Answers.{read_buffer, rest}
use Rattle.histories.specs.Calls.{collect, collected, refused, refuses}
use Rattle.histories.specs.Delivery.{collecting}
use Rattle.provider.specs.Answers.{collection_answer, collection_number}
use Rattle.provider.specs.States.{state_of, copied_into}
use Rattle.provider.proofs.Claims.{called, refused_as}
use Rattle.provider.proofs.Collecting.{first_waits, nothing_waits, too_short, collects}
use Rattle.provider.proofs.Queues.{dropped_queue}
use Rattle.provider.proofs.provider.Provider.collect.Goals as goal

pub returns-in_err-length : goal.returns-in_err-length
returns-in_err-length g c =
    let s = state_of g.F.Meaning g.T.Meaning c.args.self.now in
    let size = length c.args.out.now in
    let none = nothing_waits s.session size s.transport.held (collection_number c.in_err-length.field-0.0) c.in_err-length.ensures.answer in
    let same : c.from_residual.result ≡ Err c.in_err-length.field-0.0 = search rules in
    record {
      call = called s _ (collect size) _ _ (refuses s.session 30) none.0 (ap (λ o. o.copied) none.0)
          (refused_as s _ (collection_answer c.from_residual.result) 30 c.in_err-length.ensures.kept refl (ap collection_answer same ∙ ap refused none.1));
      buffer = sym (ap (λ o. copied_into o.copied c.args.out.now) none.0);
    }

pub returns-then-length-out : goal.returns-then-length-out
returns-then-length-out g c =
    let s = state_of g.F.Meaning g.T.Meaning c.args.self.now in
    let size = length c.args.out.now in
    let comes = too_short s.session size s.transport.held c.in_ok-length.length (first_waits s.transport.held c.in_ok-length.length c.in_ok-length.ensures.answer) (omega arith) in
    record {
      call = called s _ (collect size) (refused 34) _ (refuses s.session 34) comes (ap (λ o. o.copied) comes) (refused_as s _ (refused 34) 34 c.in_ok-length.ensures.kept refl refl);
      buffer = sym (ap (λ o. copied_into o.copied c.args.out.now) comes);
    }

pub returns : goal.returns
returns g c =
    let q = g.T.Meaning in
    let p = c.args.self.now in
    let s = state_of g.F.Meaning q p in
    let out = c.args.out.now in
    let kept = c.in_ok-length.ensures.kept in
    let held = ap (λ x. x.transport.held) kept in
    let read = c.read_from.ensures.kept in
    let first = first_waits s.transport.held c.in_ok-length.length c.in_ok-length.ensures.answer in
    let did = collects s.session (length out) s.transport.held c.in_ok-length.length out c.read_from.new.out first (omega arith) refl (c.read_from.ensures.buffer ∙ ap (λ h. read_buffer h 0 out) held) in
    record {
      call = called s _ (collect (length out)) (collected c.in_ok-length.length) _ (collecting s.session did.0) did.2 (ap (λ o. o.copied) did.2)
          (record {
            answer = ap collected (sym did.1);
            settings = ap (λ x. x.settings) kept;
            opening = ap (λ x. x.opening) kept;
            session = ap (λ x. x.session) kept;
            frames = ap (λ x. x.frames) kept;
            transport = dropped_queue q p.transport c.drop.new.self c.in_ok-length.length first
                (c.drop.ensures.left.list ∙ ap rest (read.list ∙ held)) (c.drop.ensures.left.most ∙ read.most ∙ ap (λ x. x.transport.largest) kept);
          });
      buffer = did.3 ∙ sym (ap (λ o. copied_into o.copied out) did.2);
    }
