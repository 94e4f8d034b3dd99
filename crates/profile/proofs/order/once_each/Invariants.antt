-- `profile::order::once_each` meets its contract. Assumes nothing.
use Rattle.profile.proofs.OrderLaws.{Once}
use Rattle.profile.proofs.order.once_each.Given as goal

abbrev pub invariant-loop-k : goal.invariant-loop-k
invariant-loop-k l = Once l.profile l.seen l.k
