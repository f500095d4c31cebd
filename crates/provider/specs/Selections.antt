-- The code's phase and selection, as the provider's definition has them.
use Rattle.std.specs.Prelude.{Bool, true, false, not, ◌&&◌}
use Rattle.codec.specs.Times.{stamp_if}
use Rattle.codec.specs.RecordReading.{Content, frame_content, loss_content, status_content, end_content}
use Rattle.histories.specs.Sessions as sessions
use Rattle.provider.specs.declared.phase.Phase.{Phase}
use Rattle.provider.specs.declared.phase.Phase.TheVariants.{Unbound, Ready, Active, Closed}
use Rattle.provider.specs.declared.selection.Selection.{Selection}

abbrev pub phase_of : Phase → sessions.Phase
phase_of Unbound = sessions.unbound
phase_of Ready = sessions.ready
phase_of Active = sessions.active
phase_of Closed = sessions.closed

abbrev pub held_selection : Selection → sessions.Selection
held_selection s = record { quality = s.quality; start = stamp_if s.start; stop = stamp_if s.stop }

-- Lateness and selection of a record whose data are not at hand, only their length.
abbrev pub late_content : sessions.Selection → Content → Bool
late_content s (frame_content q t n) = sessions.after_stop s.stop t
late_content s (loss_content t) = false
late_content s (status_content v) = false
late_content s end_content = false

abbrev pub selected_content : sessions.Selection → Content → Bool
selected_content s (frame_content q t n) = sessions.requests s.quality q && not (sessions.before_start t s.start)
selected_content s (loss_content t) = true
selected_content s (status_content v) = true
selected_content s end_content = true
