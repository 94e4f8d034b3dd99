-- `profile::order::ordered` meets its contract. Assumes nothing.
use Rattle.std.proofs.Common.{◌-◌}
use Rattle.profile.proofs.Ordered.{Rest}
use Rattle.profile.proofs.order.ordered.Given as goal

abbrev pub invariant-loop-k : goal.invariant-loop-k
invariant-loop-k l = Rest l.profile (l.from - 1) l.last l.k
