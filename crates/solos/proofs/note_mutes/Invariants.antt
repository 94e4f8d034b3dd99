use Rattle.std.proofs.Common.{◌≡◌}
use Rattle.drivers.specs.Talk.{got}
use Rattle.drivers.specs.Shown.{shown}
use Rattle.definition.specs.Muting.{note_mutes}
use Rattle.solos.specs.Peers.{seen_peers}
use Rattle.solos.proofs.note_mutes.Given as goal

abbrev pub invariant-loop-n : goal.invariant-loop-n
invariant-loop-n l = got l.lamps (shown l.io) ≡ note_mutes (seen_peers l.peers) l.silenced_targets l.n l.fn.lamps (shown l.initial.io)
