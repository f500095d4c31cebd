use Rattle.std.proofs.Common.{◌++◌, take, sym, refl, ap, ◌∙◌}
use Rattle.codec.specs.RecordReading.{said}
use Rattle.histories.specs.Calls.{says, idle}
use Rattle.histories.specs.Provider.{oldest, ending, taking, passing, move_record}
use Rattle.histories.specs.Sessions.{holding, aged, age_at_entry}
use Rattle.provider.specs.Answers.{opening_answer}
use Rattle.provider.specs.Buffers.{record_list}
use Rattle.provider.specs.Selections.{late_content, selected_content}
use Rattle.provider.specs.Sessions.{settings_of, session_of}
use Rattle.provider.specs.States.{state_of}
use Rattle.provider.proofs.Buffers.{one_of}
use Rattle.provider.proofs.Contents.{late_is, selected_is}
use Rattle.provider.proofs.Queues.{dropped_queue}
use Rattle.provider.proofs.Sending.{leads_by}
use Rattle.provider.proofs.Moving.{no_one, move_ends, move_takes, move_passes, move_nothing}
use Rattle.provider.proofs.provider.Provider.take_by.Goals as goal

pub returns-in_default : goal.returns-in_default
returns-in_default g c =
    let p = c.args.self.now in
    let q = g.F.Meaning in
    let s = session_of p.session in
    let x = take c.args.length c.args.copy.now in
    leads_by (state_of q g.T.Meaning p) _ _ (says s idle) _ (move_nothing s (oldest (q.held p.frames)) (c.requires.read ∙ no_one x c.in_default.ensures))
    (record {
      answer = refl;
      settings = refl;
      opening = refl;
      session = refl;
      frames = refl;
      transport = refl;
    })

pub returns-then-is_late : goal.returns-then-is_late
returns-then-is_late g c =
    let p = c.args.self.now in
    let q = g.F.Meaning in
    let s = session_of p.session in
    let x = take c.args.length c.args.copy.now in
    let one = one_of x (said c.in-Some.content) c.in-Some.ensures in
    let ends = sym (late_is s.selection one.0) ∙ ap (late_content s.selection) one.2 ∙ sym c.if-is_late.ensures in
    leads_by (state_of q g.T.Meaning p) _ _ (ending s) _ (ap (move_record s) (c.requires.read ∙ one.1) ∙ move_ends s one.0 ends)
    (record {
      answer = refl;
      settings = ap settings_of c.enter_end_of_data.ensures.kept.settings;
      opening = ap opening_answer c.enter_end_of_data.ensures.kept.opening;
      session = c.enter_end_of_data.ensures.session;
      frames = refl;
      transport = refl;
    })

pub returns-then-selects : goal.returns-then-selects
returns-then-selects g c =
    let p = c.args.self.now in
    let q = g.F.Meaning in
    let s = session_of p.session in
    let x = take c.args.length c.args.copy.now in
    let one = one_of x (said c.in-Some.content) c.in-Some.ensures in
    let in_time = sym (late_is s.selection one.0) ∙ ap (late_content s.selection) one.2 ∙ sym c.if-is_late.ensures in
    let wanted = sym (selected_is s.selection one.0) ∙ ap (selected_content s.selection) one.2 ∙ sym c.if-selects.ensures in
    leads_by (state_of q g.T.Meaning p) _ _ (taking s one.0) _ (ap (move_record s) (c.requires.read ∙ one.1) ∙ move_takes s one.0 in_time wanted)
    (record {
      answer = refl;
      settings = ap settings_of c.enter.ensures.kept.settings;
      opening = ap opening_answer c.enter.ensures.kept.opening;
      session = c.enter.ensures.session ∙ ap (λ r. holding (s.buffer ++ record_list r) (aged (age_at_entry s.buffer s.age) s)) one.1;
      frames = dropped_queue q p.frames c.drop.new.self c.args.length c.requires.held
          c.drop.ensures.left.list c.drop.ensures.left.most;
      transport = refl;
    })

pub returns : goal.returns
returns g c =
    let p = c.args.self.now in
    let q = g.F.Meaning in
    let s = session_of p.session in
    let x = take c.args.length c.args.copy.now in
    let one = one_of x (said c.in-Some.content) c.in-Some.ensures in
    let in_time = sym (late_is s.selection one.0) ∙ ap (late_content s.selection) one.2 ∙ sym c.if-is_late.ensures in
    let unwanted = sym (selected_is s.selection one.0) ∙ ap (selected_content s.selection) one.2 ∙ sym c.if-selects.ensures in
    leads_by (state_of q g.T.Meaning p) _ _ (passing s) _ (ap (move_record s) (c.requires.read ∙ one.1) ∙ move_passes s one.0 in_time unwanted)
    (record {
      answer = refl;
      settings = refl;
      opening = refl;
      session = refl;
      frames = dropped_queue q p.frames c.drop-2.new.self c.args.length c.requires.held
          c.drop-2.ensures.left.list c.drop-2.ensures.left.most;
      transport = refl;
    })
