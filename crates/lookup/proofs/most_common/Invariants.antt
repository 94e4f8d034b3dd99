-- `lookup::most_common` meets its contract. Assumes nothing.
use Rattle.lookup.specs.Lookup.{or_absent}
use Rattle.std.proofs.Common.{ℕ, ◌<◌, ◌≡◌, Some}
use Rattle.lookup.proofs.CommonLaws.{Leads}
use Rattle.lookup.proofs.most_common.Given as goal

abbrev pub invariant-loop-driver : goal.invariant-loop-driver
invariant-loop-driver l = Leads l.drivers l.driver-index (or_absent l.best) l.often × ((n : ℕ) → l.best ≡ Some n → n < 65535)
