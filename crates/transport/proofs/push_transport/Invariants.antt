use Rattle.std.proofs.Common.{◌≡◌, ◌≤◌, length, drop, []}
use Rattle.drivers.specs.Shown.{shown}
use Rattle.definition.specs.Lamps.{push_bound}
use Rattle.transport.proofs.push_transport.Given as goal

-- the lamps that are still to come, with the players that are known, light what all of them light
abbrev pub invariant-loop-button : goal.invariant-loop-button
invariant-loop-button l =
    (length l.known ≤ l.button-index)
    × (push_bound (drop l.button-index l.button-items) l.known (shown l.io) ≡ push_bound l.button-items [] (shown l.initial.io))
