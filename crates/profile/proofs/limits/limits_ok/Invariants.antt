-- `profile::limits::limits_ok` meets its contract. Assumes nothing.
use Rattle.profile.proofs.LimitLaws.{Tally}
use Rattle.profile.proofs.limits.limits_ok.Given as goal

abbrev pub invariant-loop-k : goal.invariant-loop-k
invariant-loop-k l = Tally l.profile l.table l.k
