use Rattle.std.proofs.Common.{◌∙◌, length-set, arith}
use Rattle.solos.proofs.Laws.{one_peer}
use Rattle.solos.proofs.peers.peers_of.Goals as goal

pub loop-n-preserved : goal.loop-n-preserved
loop-n-preserved c =
    let p = c.loop-n in record {
      are = one_peer _ _ p.peers p.n _ (omega arith) (rw (← c.destination.ensures) c.in_group.ensures) p.invariant.are;
      long = length-set p.peers p.n _ ∙ p.invariant.long;
    }
