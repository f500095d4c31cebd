-- What a move comes to.
use Rattle.std.proofs.Common.{◌≡◌, ℕ, ◌-◌, ◌<◌, ◌≤◌, Bool, true, false, cond, List, [], ◌∷◌, ◌++◌, length, take, drop, Some, None, Option, sym, refl, ap, ◌∙◌, subst, arith}
use Rattle.std.proofs.lemmas.List.{take_at}
use Rattle.queue.specs.Answers.{gives, refuses, first_answer, read_buffer}
use Rattle.queue.proofs.Carrying.{read_whole}
use Rattle.codec.specs.Limits.{longest_record}
use Rattle.codec.specs.Records.{Record}
use Rattle.codec.specs.RecordReading.{content_of, content_if, one_record}
use Rattle.codec_laws.proofs.OneRecord.{one_record_read}
use Rattle.codec.proofs.RecordsWritten.{encode_limit}
use Rattle.histories.specs.Sessions.{Settings, Session, is_active, late, selected}
use Rattle.histories.specs.Calls.{Answer, says, idle}
use Rattle.histories.specs.Queues.{Queue}
use Rattle.histories.specs.Delivery.{send}
use Rattle.provider.specs.States.{Leads}
use Rattle.histories.specs.Provider.{State, oldest, ending, taking, passing, move_record, must_send, move_by}

-- no record that is held
pub none_oldest : (held : List (List ℕ)) (k : ℕ) → refuses k ≡ first_answer held → oldest held ≡ None
none_oldest held k e = grind arith

-- the oldest record's octets, read into a buffer that is long enough
pub oldest_read : (held : List (List ℕ)) (n : ℕ) (out out' : List ℕ) → gives n ≡ first_answer held → n ≤ length out → out' ≡ read_buffer held 0 out → oldest held ≡ one_record (take (n - 0) out')
oldest_read [] n out out' e h r = absurd (cc)
oldest_read (x ∷ rs) n out out' e h r =
    let is : n ≡ length x = cc in
    let z : n - 0 ≡ n = omega arith in
    let front : out' ≡ x ++ drop (length x) out = r ∙ read_whole x rs out (omega arith) in
    ap one_record (sym (ap (λ k. take k out') z ∙ ap (take n) front ∙ take_at x (drop (length x) out) n (sym is)))

-- a move from a frame buffer that stands for the same queue
module _ (settings : Settings) (opening : ℕ) (own : Session) (transport : Queue) where
  abbrev with_frames : Queue → State
  with_frames q = record { settings = settings; opening = opening; session = own; frames = q; transport = transport }

  pub moves_from : (q q₁ : Queue) (a : Answer) (s' : State) → q₁ ≡ q → Leads (with_frames q₁) (move_record own (oldest q₁.held)) a s' → Leads (with_frames q) (move_record own (oldest q.held)) a s'
  moves_from q q₁ a s' e l = subst (λ x. Leads (with_frames x) (move_record own (oldest x.held)) a s') e l

-- octets that are longer than the longest record are none
pub too_long : (held : List (List ℕ)) (n : ℕ) → gives n ≡ first_answer held → longest_record < n → oldest held ≡ None
too_long [] n e h = refl
too_long (x ∷ rs) n e h = by (one_record x) refl
  where
    by : (o : Option Record) → one_record x ≡ o → one_record x ≡ None
    by None is = is
    by (Some r) is =
        let p = one_record_read x r is in
        let long : n ≡ length x = cc in
        absurd (omega (arith, encode_limit r p.0, ap length p.1))

pub no_one : (xs : List ℕ) → None ≡ content_if (one_record xs) → one_record xs ≡ None
no_one xs e = by (one_record xs) refl
  where
    by : (o : Option Record) → one_record xs ≡ o → one_record xs ≡ None
    by None is = is
    by (Some r) is = let f : content_if (one_record xs) ≡ Some (content_of r) = ap content_if is in absurd (cc)

module _ (s : Session) (r : Record) where
  pub move_ends : late s.selection r ≡ true → move_record s (Some r) ≡ ending s
  unfolding move_record
  move_ends e = rw e

  pub move_takes : late s.selection r ≡ false → selected s.selection r ≡ true → move_record s (Some r) ≡ taking s r
  unfolding move_record
  move_takes e f = rw (e, f)

  pub move_passes : late s.selection r ≡ false → selected s.selection r ≡ false → move_record s (Some r) ≡ passing s
  unfolding move_record
  move_passes e f = rw (e, f)

pub move_nothing : (s : Session) (o : Option Record) → o ≡ None → move_record s o ≡ says s idle
unfolding move_record
move_nothing s o e = rw e

module _ (s : State) where
  pub move_off : is_active s.session.phase ≡ false → move_by s ≡ says s.session idle
  unfolding move_by
  move_off e = rw e

  pub move_sends : is_active s.session.phase ≡ true → must_send s.settings s.session ≡ true → move_by s ≡ send s.session s.transport
  unfolding move_by
  move_sends e f = rw (e, f)

  pub move_rests : is_active s.session.phase ≡ true → must_send s.settings s.session ≡ false → s.session.end_mark ≡ true → move_by s ≡ says s.session idle
  unfolding move_by
  move_rests e f m = rw (e, f, m)

  pub move_looks : is_active s.session.phase ≡ true → must_send s.settings s.session ≡ false → s.session.end_mark ≡ false → move_by s ≡ move_record s.session (oldest s.frames.held)
  unfolding move_by
  move_looks e f m = rw (e, f, m)

pub quiet_move : (s : Session) (o : Option Record) → [] ≡ (move_record s o).copied
unfolding move_record
quiet_move s None = refl
quiet_move s (Some r) = either (late s.selection r) (selected s.selection r)
  where
    either : (a b : Bool) → [] ≡ (cond a (ending s) (cond b (taking s r) (passing s))).copied
    either a b = grind arith
