use Rattle.std.proofs.Common.{◌≡◌, ◌≤◌, length}
use Rattle.definition.specs.Rig.{own_drivers}
use Rattle.rig.specs.Seen.{here_in}
use Rattle.rig.proofs.current.Current.bank_driver.Given as goal

abbrev pub invariant-loop-n : goal.invariant-loop-n
invariant-loop-n l = (l.drivers ≡ own_drivers (here_in l.self) l.n) × (length l.drivers ≤ l.n)
