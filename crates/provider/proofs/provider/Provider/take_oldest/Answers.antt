use Rattle.std.proofs.Common.{◌≡◌, ◌-◌, take, replicate, sym, refl, ap, ◌∙◌, arith}
use Rattle.queue.specs.Answers.{number, first_answer, read_buffer}
use Rattle.codec.specs.RecordReading.{one_record}
use Rattle.histories.specs.Calls.{says, idle}
use Rattle.histories.specs.Provider.{oldest}
use Rattle.provider.specs.Answers.{opening_answer}
use Rattle.provider.specs.Sessions.{settings_of, session_of}
use Rattle.provider.specs.States.{state_of, queue_of}
use Rattle.provider.proofs.Queues.{kept_queue}
use Rattle.provider.proofs.Sending.{leads_by}
use Rattle.provider.proofs.Moving.{none_oldest, oldest_read, too_long, move_nothing, moves_from}
use Rattle.provider.proofs.provider.Provider.take_oldest.Goals as goal

pub returns-in_default : goal.returns-in_default
returns-in_default g c =
    let p = c.args.self.now in
    let q = g.F.Meaning in
    let s = session_of p.session in
    let none = none_oldest (q.held p.frames) (number c.in_default.field-0) c.in_default.ensures.answer in
    leads_by (state_of q g.T.Meaning p) _ _ (says s idle) _ (move_nothing s (oldest (q.held p.frames)) none)
    (record { answer = refl; settings = refl; opening = refl; session = refl; frames = kept_queue q p.frames c.first_length.new.self c.first_length.ensures.kept; transport = refl })

pub returns-then-length-gt-LONGEST_RECORD : goal.returns-then-length-gt-LONGEST_RECORD
returns-then-length-gt-LONGEST_RECORD g c =
    let p = c.args.self.now in
    let q = g.F.Meaning in
    let s = session_of p.session in
    let none = too_long (q.held p.frames) c.in-Ok.length c.in-Ok.ensures.answer (omega arith) in
    leads_by (state_of q g.T.Meaning p) _ _ (says s idle) _ (move_nothing s (oldest (q.held p.frames)) none)
    (record { answer = refl; settings = refl; opening = refl; session = refl; frames = kept_queue q p.frames c.first_length.new.self c.first_length.ensures.kept; transport = refl })

pub take_by-requires : goal.take_by-requires
take_by-requires g c =
    let p = c.args.self.now in
    let q = g.F.Meaning in
    let n = c.in-Ok.length in
    let same = c.read_from.ensures.kept.list ∙ c.first_length.ensures.kept.list in
    let z : n - 0 ≡ n = omega arith in
    let read = oldest_read (q.held p.frames) n (replicate 256 0) c.read_from.new.out c.in-Ok.ensures.answer (omega arith)
    (c.read_from.ensures.buffer ∙ ap (λ h. read_buffer h 0 (replicate 256 0)) c.first_length.ensures.kept.list) in
    (omega arith, (c.requires, (omega arith, (omega arith, (c.in-Ok.ensures.answer ∙ sym (ap first_answer same), ap oldest same ∙ read ∙ ap (λ k. one_record (take k c.read_from.new.out)) z)))))

pub take_by-requires-2 : goal.take_by-requires-2
take_by-requires-2 g c =
    let p = c.args.self.now in
    let q = g.F.Meaning in
    let n = c.in-Ok.length in
    let same = c.read_from-2.ensures.kept.list ∙ c.first_length.ensures.kept.list in
    let z : n - 0 ≡ n = omega arith in
    let read = oldest_read (q.held p.frames) n (replicate 2061 0) c.read_from-2.new.out c.in-Ok.ensures.answer (omega arith)
    (c.read_from-2.ensures.buffer ∙ ap (λ h. read_buffer h 0 (replicate 2061 0)) c.first_length.ensures.kept.list) in
    (omega arith, (c.requires, (omega arith, (omega arith, (c.in-Ok.ensures.answer ∙ sym (ap first_answer same), ap oldest same ∙ read ∙ ap (λ k. one_record (take k c.read_from-2.new.out)) z)))))

pub returns-then-length-le-SHORT_RECORD : goal.returns-then-length-le-SHORT_RECORD
returns-then-length-le-SHORT_RECORD g c =
    let p = c.args.self.now in
    let q = g.F.Meaning in
    let kept = kept_queue q c.first_length.new.self c.read_from.new.self c.read_from.ensures.kept ∙ kept_queue q p.frames c.first_length.new.self c.first_length.ensures.kept in
    moves_from (settings_of p.session.settings) (opening_answer p.session.opening) (session_of p.session) (queue_of g.T.Meaning p.transport) _ _ _ _ kept c.take_by.ensures

pub returns : goal.returns
returns g c =
    let p = c.args.self.now in
    let q = g.F.Meaning in
    let kept = kept_queue q c.first_length.new.self c.read_from-2.new.self c.read_from-2.ensures.kept ∙ kept_queue q p.frames c.first_length.new.self c.first_length.ensures.kept in
    moves_from (settings_of p.session.settings) (opening_answer p.session.opening) (session_of p.session) (queue_of g.T.Meaning p.transport) _ _ _ _ kept c.take_by-2.ensures
