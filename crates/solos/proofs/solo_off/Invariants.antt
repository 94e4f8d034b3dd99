use Rattle.std.proofs.Common.{◌≡◌, ◌≤◌}
use Rattle.drivers.specs.Talk.{got}
use Rattle.drivers.specs.Shown.{shown}
use Rattle.session.specs.Session.{seen_silenced}
use Rattle.definition.specs.Muting.{solo_off}
use Rattle.solos.specs.Peers.{seen_peers}
use Rattle.solos.proofs.solo_off.Given as goal

abbrev pub invariant-loop-n : goal.invariant-loop-n
invariant-loop-n l = record {
  line : got (seen_silenced l.silenced) (shown l.io)
      ≡ solo_off (seen_peers l.peers) l.lamps l.n (seen_silenced l.initial.silenced) (shown l.initial.io);
  bound : l.silenced.count ≤ 256;
}
