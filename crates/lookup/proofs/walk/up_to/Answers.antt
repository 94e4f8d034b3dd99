-- `lookup::walk::up_to` meets its contract. Assumes nothing.
use Rattle.base.proofs.FirstLaws.{first-none}
use Rattle.lookup.proofs.walk.up_to.Goals as goal

pub invariant_of-result : goal.invariant_of-result
invariant_of-result c = first-none _
