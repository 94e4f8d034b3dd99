-- `replay::play::Play::fresh`: a fresh session is well shaped. Assumes nothing.
use Rattle.bridge.proofs.ShapedLaws.{fresh-shaped}
use Rattle.replay.proofs.play.Play.fresh.Goals as goal

pub invariant_of-result : goal.invariant_of-result
invariant_of-result c = record { shaped = rw c.fresh.ensures (fresh-shaped _ c.requires) }
