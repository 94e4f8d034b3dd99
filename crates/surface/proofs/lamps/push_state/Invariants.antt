use mathlib.Core.Path.{◌≡◌}
use Rattle.drivers.specs.Shown.{shown}
use Rattle.definition.specs.Lamps.{push_faders}
use Rattle.rig.specs.Seen.{rig_in}
use Rattle.surface.proofs.lamps.push_state.Given as goal

abbrev pub invariant-loop-channel : goal.invariant-loop-channel
invariant-loop-channel l =
    shown l.io ≡ push_faders (rig_in l.here) l.lamps l.silenced_targets l.channel (shown l.initial.io)
