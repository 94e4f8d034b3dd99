use Rattle.std.proofs.Common.{◌≡◌, ◌≤◌, ℕ, length}
use Rattle.definition.specs.Muting.{peer}
use Rattle.rig.specs.Seen.{rig_in}
use Rattle.solos.specs.Peers.{seen_peers}
use Rattle.solos.proofs.peers.peers_of.Given as goal

abbrev pub invariant-loop-n : goal.invariant-loop-n
invariant-loop-n l = record {
  are : (i : ℕ) → 1 ≤ i → i ≤ l.n → seen_peers l.peers i ≡ peer (rig_in l.here) l.group i;
  long : length l.peers ≡ 16;
}
