-- What an opening comes to, and that an accepted one begins a history.
use Rattle.std.proofs.Common.{◌≡◌, ℕ, zero, suc, Bool, true, false, cond, [], Ok, Err, Result, IfOk, sym, ap, ◌∙◌, subst, arith}
use Rattle.histories.specs.Queues.{Queue, Lawful}
use Rattle.histories.specs.Sessions.{Settings}
use Rattle.histories.specs.Provider.{State, in_range, opening_number, least_settings, fresh, opened_as, opened}
use Rattle.histories.specs.Histories.{History, opens}
use Rattle.histories.proofs.Soundness.{sound}
use Rattle.provider.specs.Answers.{opening_answer}
use Rattle.provider.specs.Opening.{first_phase, kept_settings, queues_number, Begins}
use Rattle.provider.specs.Sessions.{settings_of}
use Rattle.provider.specs.declared.answer.OpeningRefusal.{OpeningRefusal}
use Rattle.provider.specs.declared.settings.Settings as settings

abbrev pub settings_by : ℕ → Settings → Settings
settings_by zero g = g
settings_by (suc n) g = least_settings

pub out_of_range : (g : Settings) (f t : Queue) → in_range g ≡ false → opening_number g f t ≡ 1
unfolding opening_number
out_of_range g f t e = rw e

pub in_range_lem : (g : Settings) (f t : Queue) → in_range g ≡ true → opening_number g f t ≡ queues_number g.buffer_size f t
unfolding opening_number
in_range_lem g f t e = rw e

state_is : (n : ℕ) (g : Settings) (f t : Queue) → opened_as n g f t ≡ record { settings = settings_by n g; opening = n; session = fresh (first_phase n); frames = f; transport = t }
state_is n g f t = grind arith

pub opened_is : (s : State) (g : Settings) (f t : Queue) (n : ℕ) → opening_number g f t ≡ n → s.settings ≡ settings_by n g → s.opening ≡ n → s.session ≡ fresh (first_phase n) → s.frames ≡ f → s.transport ≡ t
    → s ≡ opened g f t
opened_is s g f t n number settings opening session frames transport =
    (λ i. record { settings = settings i; opening = opening i; session = session i; frames = frames i; transport = transport i })
    ∙ sym (state_is n g f t) ∙ ap (λ k. opened_as k g f t) (sym number)

numbered : (n : ℕ) (g : Settings) (f t : Queue) → (opened_as n g f t).opening ≡ n
numbered n g f t = grind arith

pub begins : (s : State) (g : Settings) (f t : Queue) → Lawful f → Lawful t → s ≡ opened g f t → Begins s
begins s g f t lf lt is accepted =
    let number : opening_number g f t ≡ 0 = sym (numbered (opening_number g f t) g f t) ∙ ap (λ x. x.opening) (sym is) ∙ accepted in
    let h : History [] s = subst (λ (x : State). History [] x) (sym is) (opens g f t lf lt number) in
    (h, sound h)

-- a test that refuses, and one that does not
module _ {X E : Type 0} (e : E) where
  pub was_refused : (b : Bool) (x : X) (d : E) → Err d ≡ cond b (Ok x) (Err e) → (b ≡ false) × (d ≡ e)
  was_refused b x d is = grind arith

  pub was_accepted : (b : Bool) (x y : X) → Ok y ≡ cond b (Ok x) (Err e) → (b ≡ true) × (y ≡ x)
  was_accepted b x y is = grind arith

pub kept_is : (r : Result settings.Settings OpeningRefusal) (g : Settings) → IfOk r (λ s. settings_of s ≡ g) → kept_settings r ≡ settings_by (opening_answer r) g
kept_is r g is = grind arith
