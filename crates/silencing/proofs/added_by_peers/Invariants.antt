use Rattle.std.proofs.Common.{◌≡◌, ◌≤◌, length}
use Rattle.definition.specs.Muting.{solo_adds}
use Rattle.solos.specs.Peers.{seen_peers}
use Rattle.silencing.proofs.added_by_peers.Given as goal

abbrev pub invariant-loop-n : goal.invariant-loop-n
invariant-loop-n l = record {
  added : l.added ≡ solo_adds (seen_peers l.peers) l.fader l.silenced_targets l.n;
  bound : length l.added ≤ l.n;
}
