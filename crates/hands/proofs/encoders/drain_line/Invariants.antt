use Rattle.std.proofs.Common.{◌≡◌, drop}
use Rattle.drivers.specs.Shown.{shown}
use Rattle.definition.specs.Faders.{writes}
use Rattle.rig.specs.Seen.{rig_in}
use Rattle.hands.proofs.encoders.drain_line.Given as goal

-- the moves that are left drain what is left
abbrev pub invariant-loop-m : goal.invariant-loop-m
invariant-loop-m l = writes (rig_in l.here) (drop l.m-index l.m-items) (shown l.io) ≡ writes (rig_in l.here) l.m-items (shown l.initial.io)
