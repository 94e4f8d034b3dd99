use Prim.Native.Nat.{◌≤◌, ◌-◌}
use mathlib.Core.Path.{◌≡◌}
use Rattle.drivers.specs.Shown.{shown}
use Rattle.definition.specs.Flash.{phases}
use Rattle.surface.proofs.flash.send_phases.Given as goal

abbrev pub invariant-loop-phase : goal.invariant-loop-phase
invariant-loop-phase l =
    (shown l.io ≡ phases l.flash (l.phase - l.flash.sent) (shown l.initial.io)) × (l.phase - l.flash.sent ≤ l.due - l.flash.sent)
