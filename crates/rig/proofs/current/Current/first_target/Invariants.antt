use Rattle.std.proofs.Common.{◌≡◌, None}
use Rattle.definition.specs.Rig.{first_target}
use Rattle.rig.specs.Seen.{here_in}
use Rattle.rig.proofs.current.Current.first_target.Given as goal

abbrev pub invariant-loop-n : goal.invariant-loop-n
invariant-loop-n l = first_target (here_in l.self) l.driver l.n ≡ None
