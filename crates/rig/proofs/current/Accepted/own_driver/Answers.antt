use Rattle.std.proofs.Common.{sym, ◌∙◌, arith}
use Rattle.lookup.proofs.Found.{known-device}
use Rattle.rig.proofs.Laws.{low_driver}
use Rattle.rig.proofs.current.Accepted.own_driver.Goals as goal

pub overflow_cast-result : goal.overflow_cast-result
overflow_cast-result c = omega (arith, low_driver _ _ (known-device _ c.args.self.now.accepted _) (sym c.in_ok-own.was ∙ c.device_of.ensures))
