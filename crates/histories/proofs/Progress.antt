-- Moves use up what is untaken, and ticks then send what is pending.
use Rattle.std.proofs.Common.{◌≡◌, ℕ, zero, suc, ◌+◌, ◌*◌, ◌<◌, ◌≤◌, true, false, cond, ◌&&◌, eqb, leb, ◌⊎◌, List, [], ◌∷◌, ◌++◌, map, length, replicate, None, sym, refl, ap, ◌∙◌, subst, subst₂, inl, inr, arith}
use Rattle.std.specs.List.{AllByRecursion}
use Rattle.std.proofs.lemmas.List.{length-map, nil_from_length}
use Rattle.std.proofs.ByRecursion.{All-append}
use Rattle.std.proofs.lemmas.Bool.{cond_both, cond-true, cond-false, and_parts, and_cases, or_cases, both_ways, eqb-true, ne_eqb, ltb-true}
use Rattle.codec.specs.Records.{Record}
use Rattle.codec_laws.proofs.OneRecord.{one_record_written}
use Rattle.histories.specs.Queues.{Queue, Effect, keep, After}
use Rattle.histories.specs.Sessions.{Settings, active, is_active, Session, holding, entered, aged}
use Rattle.histories.specs.Calls.{Call, move, tick, collect, Outcome}
use Rattle.histories.specs.Delivery.{transfer_pdu, is_filled, collect_by}
use Rattle.histories.specs.Provider.{State, must_send, oldest, outcome}
use Rattle.histories.specs.Ledger.{Acceptance, Event, Ledger, ledger, record_of}
use Rattle.histories.specs.Histories.{Step, History, goes_on}
use Rattle.histories.specs.Statements.{octets_of, Finished}
use Rattle.histories.specs.Progress.{Served, rests, collects, calls, ServedRunsFinish}
use Rattle.histories.proofs.Entries.{WellAccepted}
use Rattle.histories.proofs.Invariant.{Inv, Leads, led}
use Rattle.histories.proofs.Outcomes.{Moves, Ticks, Change}
use Rattle.histories.proofs.Outcomes as does
use Rattle.histories.proofs.Steps.{empty_buffer}
use Rattle.histories.proofs.Latency.{filled, has_room}
use Rattle.histories.proofs.SameRun.{Inner, moves, ticks, all_replicate, served_run}
use Rattle.histories.proofs.Soundness.{history_inv}

-- what a full transfer buffer costs: one move
abbrev full : Settings → Session → ℕ
full g x = cond (eqb (length x.buffer) g.buffer_size) 1 0

full_one : (g : Settings) (x : Session) → full g x ≤ 1
full_one g x = cond_both (eqb (length x.buffer) g.buffer_size) 1 0 (λ (n : ℕ). n ≤ 1) (λ _. omega arith) (λ _. omega arith)

-- at the end mark, or at most k moves away from an empty frame buffer
abbrev Nears : ℕ → Settings → Session → List (List ℕ) → Type 0
Nears k g x held = (x.end_mark ≡ true) ⊎ (2 * length held + full g x ≤ suc k)

abbrev Moving : ℕ → Settings → Session → Queue → Type 0
Moving k g x frames = (x.phase ≡ active) × Nears k g x frames.held

-- nothing in the transfer buffer, or t ticks away from that
abbrev Leaves : ℕ → Settings → Session → Type 0
Leaves t g x = (length x.buffer ≡ 0) ⊎ ((1 ≤ t) × (g.latency_limit ≤ x.age + t))

abbrev Ticking : ℕ → Settings → Session → Queue → Type 0
Ticking t g x frames = (x.phase ≡ active) × ((x.end_mark ≡ true) ⊎ (frames.held ≡ [])) × Leaves t g x

abbrev Of : (Settings → Session → Queue → Type 0) → State → Type 0
Of P s = P s.settings s.session s.frames

-- the frame buffer's oldest is a record
is_record : (us : List Acceptance) → AllByRecursion WellAccepted us → oldest (map octets_of us) ≡ None → map octets_of us ≡ []
is_record [] w e = refl
is_record (a ∷ more) w e = let back = one_record_written a.value w.0.0 in cc

none_oldest : (l : Ledger) (s : State) → Inv l s → oldest s.frames.held ≡ None → s.frames.held ≡ []
none_oldest l s i = subst (λ (h : List (List ℕ)). oldest h ≡ None → h ≡ []) (sym i.framed.are) (is_record l.untaken i.framed.well)

module _ (l : Ledger) (s : State) (i : Inv l s) (empty : s.transport.held ≡ []) where
  stays : (P : Settings → Session → Queue → Type 0) (x : Session) (frames : Queue) → frames ≡ s.frames → P s.settings x s.frames → P s.settings x frames
  stays P x frames f p = subst (λ (q : Queue). P s.settings x q) (sym f) p

  no_wait : {X : Type 0} → 1 ≤ length s.session.buffer → s.transport.room (length (transfer_pdu s.session.buffer)) ≡ false → X
  no_wait some none = absurd (both_ways (s.transport.room (length (transfer_pdu s.session.buffer))) none (has_room l s i empty some))

  something : must_send s.settings s.session ≡ true → 1 ≤ length s.session.buffer
  something h = elim (or_cases (eqb (length s.session.buffer) s.settings.buffer_size) (s.session.end_mark && is_filled s.session.buffer) h) [
    | inl e ↦ let same = eqb-true (length s.session.buffer) s.settings.buffer_size e in let size = i.fitting.some_size in omega arith
    | inr e ↦ filled s.session.buffer (and_parts s.session.end_mark (is_filled s.session.buffer) e).1
  ]

  -- a move that sends leaves the transfer buffer not full
  relieved : (k : ℕ) → Nears (suc k) s.settings s.session s.frames.held → must_send s.settings s.session ≡ true → Nears k s.settings (holding [] s.session) s.frames.held
  relieved k (inl e) h = inl e
  relieved k (inr b) h = elim (or_cases (eqb (length s.session.buffer) s.settings.buffer_size) (s.session.end_mark && is_filled s.session.buffer) h) [
    | inl e ↦
        let was : full s.settings s.session ≡ 1 = cond-true (eqb (length s.session.buffer) s.settings.buffer_size) 1 0 e in
        let is : full s.settings (holding [] s.session) ≡ 0 = cond-false (eqb 0 s.settings.buffer_size) 1 0 (ne_eqb 0 s.settings.buffer_size (λ z. let size = i.fitting.some_size in omega arith)) in
        inr (omega arith)
    | inr e ↦ inl (and_parts s.session.end_mark (is_filled s.session.buffer) e).0
  ]

  -- a record less in the frame buffer
  fewer : (k : ℕ) (x : Session) (frames : Queue) → x.end_mark ≡ s.session.end_mark → length s.frames.held ≡ suc (length frames.held)
      → Nears (suc k) s.settings s.session s.frames.held → Nears k s.settings x frames.held
  fewer k x frames same less (inl e) = inl (same ∙ e)
  fewer k x frames same less (inr b) = let one = full_one s.settings x in inr (omega arith)

  moves_near : (k : ℕ) → Of (Moving (suc k)) s → {o : Outcome} {f : Change} → Moves s o f → Leads (Of (Moving k)) s o
  moves_near k m (does.when_not_active h) = absurd (both_ways (is_active s.session.phase) h (ap is_active m.0))
  moves_near k m (does.at_end h) = λ frames transport f t. stays (Moving k) s.session frames f (m.0, inl h)
  moves_near k m (does.no_record h) = λ frames transport f t.
      let one = full_one s.settings s.session in
      let none_held = ap (λ (x : List (List ℕ)). length x) (none_oldest l s i h) in
      stays (Moving k) s.session frames f (m.0, inr (omega arith))
  moves_near k m (Moves.sends h) = λ frames transport f t. stays (Moving k) (holding [] s.session) frames f (m.0, relieved k m.1 h)
  moves_near k m (Moves.waits h full') = no_wait (something h) full'
  moves_near k m (does.ends r c h) = λ frames transport f t. (m.0, inl refl)
  moves_near k m (does.takes r c h w) = λ frames transport f t. (m.0, fewer k (entered r s.session) frames refl (ap (λ (x : List (List ℕ)). length x) f.held) m.1)
  moves_near k m (does.passes r c h w) = λ frames transport f t. (m.0, fewer k s.session frames refl (ap (λ (x : List (List ℕ)). length x) f.held) m.1)

  nearer : (n : ℕ) → Leaves (suc n) s.settings s.session → 1 ≤ length s.session.buffer → suc s.session.age < s.settings.latency_limit → Leaves n s.settings (aged (suc s.session.age) s.session)
  nearer n (inl z) some below = inl z
  nearer n (inr b) some below = inr (omega arith, omega arith)

  ticks_near : (n : ℕ) → Of (Ticking (suc n)) s → {o : Outcome} {f : Change} → Ticks s o f → Leads (Of (Ticking n)) s o
  ticks_near n m (does.rests h) = λ frames transport f t. stays (Ticking n) s.session frames f (m.0, m.1, inl nothing)
    where
      nothing : length s.session.buffer ≡ 0
      nothing = elim (and_cases (is_active s.session.phase) (is_filled s.session.buffer) h) [
        | inl off ↦ absurd (both_ways (is_active s.session.phase) off (ap is_active m.0))
        | inr gone ↦ empty_buffer s.session.buffer gone
      ]
  ticks_near n m (does.grows_older a h) = λ frames transport f t.
      stays (Ticking n) (aged (suc s.session.age) s.session) frames f (m.0, m.1, nearer n m.2 (filled s.session.buffer a.filled) (ltb-true (suc s.session.age) s.settings.latency_limit h))
  ticks_near n m (Ticks.sends a) = λ frames transport f t. stays (Ticking n) (holding [] (aged s.settings.latency_limit s.session)) frames f (m.0, m.1, inl refl)
  ticks_near n m (Ticks.waits a full') = no_wait (filled s.session.buffer a.filled) full'

-- a collection changes the transport only
collect_keeps : (s : State) (n : ℕ) (h : List (List ℕ)) → ((collect_by s.session n h).session ≡ s.session) × ((collect_by s.session n h).on_frames ≡ keep)
unfolding collect_by
collect_keeps s n [] = (refl, refl)
collect_keeps s n (x ∷ xs) = cond_both (leb (length x) n) _ _ (λ (o : Outcome). (o.session ≡ s.session) × (o.on_frames ≡ keep)) (λ _. (refl, refl)) (λ _. (refl, refl))

step_leads : (P : State → Type 0) (s s' : State) (e : Event) (c : Call) → e.call ≡ c → Step s e s' → Leads P s (outcome s c) → P s'
step_leads P s s' e c is st p = led P s s' e st (subst (λ (x : Call). Leads P s (outcome s x)) (sym is) p)

collected : (P : Settings → Session → Queue → Type 0) (s s' : State) (e : Event) (n : ℕ) → e.call ≡ collect n → Step s e s' → Of P s → Of P s'
collected P s s' e n is st p =
    let same = collect_keeps s n s.transport.held in
    step_leads (Of P) s s' e (collect n) is st
    (λ frames transport f t.
    subst₂ (λ (x : Session) (q : Queue). P s.settings x q) (sym same.0) (sym (subst (λ (y : Effect). After s.frames y frames) same.1 f)) p)

finished : (l : Ledger) (s : State) → Inv l s → Of (Ticking 0) s → Finished l
finished l s i m = record {
  lasts = sym i.phase ∙ m.0;
  nothing_pending = nil_from_length l.pending (sym (length-map l.pending record_of) ∙ ap (λ (x : List Record). length x) (sym i.buffered.are) ∙ nothing m.2);
  at_end = end m.1;
}
  where
    nothing : Leaves 0 s.settings s.session → length s.session.buffer ≡ 0
    nothing (inl z) = z
    nothing (inr b) = absurd (omega arith)

    end : (s.session.end_mark ≡ true) ⊎ (s.frames.held ≡ []) → (l.end_mark ≡ true) ⊎ (l.untaken ≡ [])
    end (inl e) = inl (sym i.mark ∙ e)
    end (inr e) = inr (nil_from_length l.untaken (sym (length-map l.untaken octets_of) ∙ ap (λ (x : List (List ℕ)). length x) (sym i.framed.are ∙ e)))

ticks_finish : {cs : List Call} {es es' : List Event} {s s' : State} → Served cs es s es' s' → History es s → (n : ℕ) → cs ≡ replicate n tick → Of (Ticking n) s → Finished (ledger es')
ticks_finish (rests {es = es} {s = s}) h zero c m = finished (ledger es) s (history_inv h) m
ticks_finish rests h (suc n) c m = cc
ticks_finish (collects {s = s} {t = u} k e is st more) h n c m = ticks_finish more (goes_on e h st) n c (collected (Ticking n) s u e k is st m)
ticks_finish (calls e empty st more) h zero c m = cc
ticks_finish (calls {cs = cs} {es = es} {s = s} {t = u} e empty st more) h (suc n) c m =
    let is : e.call ≡ tick = cc in
    let rest : cs ≡ replicate n tick = cc in
    ticks_finish more (goes_on e h st) n rest
    (step_leads (Of (Ticking n)) s u e tick is st (ticks_near (ledger es) s (history_inv h) empty n m (does.ticks s).1))

settled : (s : State) (n : ℕ) → Of (Moving 0) s → 1 ≤ n → s.settings.latency_limit ≤ n → Of (Ticking n) s
settled s n m one limit = (m.0, elim m.1 [ inl e ↦ inl e | inr b ↦ inr (nil_from_length s.frames.held (omega arith)) ], inr (one, omega arith))

moves_finish : {cs : List Call} {es es' : List Event} {s s' : State} → Served cs es s es' s' → History es s → (k n : ℕ) → cs ≡ replicate k move ++ replicate n tick → 1 ≤ n → s.settings.latency_limit ≤ n
    → Of (Moving k) s → Finished (ledger es')
moves_finish (rests {s = s}) h zero n c one limit m = ticks_finish rests h n c (settled s n m one limit)
moves_finish rests h (suc k) n c one limit m = cc
moves_finish (collects {s = s} {t = u} j e is st more) h k n c one limit m =
    moves_finish more (goes_on e h st) k n c one (subst (λ (g : Settings). g.latency_limit ≤ n) (sym st.settings) limit) (collected (Moving k) s u e j is st m)
moves_finish (calls {s = s} e empty st more) h zero n c one limit m = ticks_finish (calls e empty st more) h n c (settled s n m one limit)
moves_finish (calls {cs = cs} {es = es} {s = s} {t = u} e empty st more) h (suc k) n c one limit m =
    let is : e.call ≡ move = cc in
    let rest : cs ≡ replicate k move ++ replicate n tick = cc in
    moves_finish more (goes_on e h st) k n rest one (subst (λ (g : Settings). g.latency_limit ≤ n) (sym st.settings) limit)
    (step_leads (Of (Moving k)) s u e move is st (moves_near (ledger es) s (history_inv h) empty k m (does.moves s).1))

pub served_runs_finish : ServedRunsFinish
served_runs_finish es es' s s' k n h on many long served =
    let i : Inv (ledger es) s = history_inv h in
    let held : length s.frames.held ≡ length (ledger es).untaken = ap (λ (x : List (List ℕ)). length x) i.framed.are ∙ length-map (ledger es).untaken octets_of in
    let one = full_one s.settings s.session in
    let limit = i.fitting.some_limit in (
      moves_finish served h k n refl (omega arith) long (on, inr (omega arith)),
      served_run served h (All-append Inner (replicate k move) (replicate n tick) (all_replicate Inner k move moves) (all_replicate Inner n tick ticks)),
    )
