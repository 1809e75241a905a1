-- Whether a station goes on, and whether callers still wait in its cluster. It carries a proof: no promise speaks of
-- it.
use Rattle.std.specs.Prelude.{ℕ, ◌+◌, Bool, true, false, nat_le, if◌then◌else◌}
use Rattle.reg_base.specs.declared.limits.TheConstants.{MOST_EVENTS}
use Rattle.reg_live.specs.declared.operations.Operation.{Operation}
use Rattle.reg_live.specs.declared.phases.Phase.{Phase}
use Rattle.reg_live.specs.declared.phases.Phase.TheVariants.{Open, Full, Stopped, Told, Ended}
use Rattle.reg_live.specs.Operations.{is_running}

abbrev pub is_stopped : Phase → Bool
is_stopped Open = false
is_stopped Full = false
is_stopped Stopped = true
is_stopped Told = false
is_stopped Ended = true

-- whether the callers have yet to be told to wait no more
abbrev pub is_untold : Phase → Bool
is_untold Open = false
is_untold Full = true
is_untold Stopped = true
is_untold Told = false
is_untold Ended = false

-- whether the caller of the last operation waits for its answer
abbrev pub waits : Phase → Operation → Bool
waits Open operation = is_running operation
waits Full operation = false
waits Stopped operation = false
waits Told operation = false
waits Ended operation = false

-- the phase once the station stops
abbrev pub after_stop : Phase → Phase
after_stop Open = Stopped
after_stop Full = Stopped
after_stop Stopped = Stopped
after_stop Told = Ended
after_stop Ended = Ended

-- the phase once the station's caller was told to wait no more
abbrev pub after_telling : Phase → Phase
after_telling Open = Told
after_telling Full = Told
after_telling Stopped = Ended
after_telling Told = Told
after_telling Ended = Ended

-- the phase once the journal has no place left
abbrev pub after_last : Phase → Phase
after_last Open = Full
after_last Full = Full
after_last Stopped = Stopped
after_last Told = Told
after_last Ended = Ended

-- the phase after a section at this place
abbrev pub after_place : Phase → ℕ → Phase
after_place phase place = if nat_le MOST_EVENTS (place + 1) then after_last phase else phase
