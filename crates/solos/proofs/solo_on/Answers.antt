use Rattle.solos.proofs.Laws.{room_on_peers}
use Rattle.solos.proofs.solo_on.Goals as goal

pub solo_peer-requires-clause-room : goal.solo_peer-requires-clause-room
solo_peer-requires-clause-room c = room_on_peers _ _ _ _ c.requires.once c.requires.room c.loop-n.n c.loop-n-test.true _ _ c.loop-n.invariant.line
