use Rattle.std.proofs.Common.{◌≡◌, ap, ◌∙◌, arith, [], ◌∷◌, length-append}
use Rattle.lookup.specs.Lookup.{most_common, named}
use Rattle.definition.specs.Rig.{own_drivers, bank_driver}
use Rattle.rig.proofs.Laws.{no_drivers, one-driver, no_driver, its_driver}
use Rattle.rig.proofs.current.Current.bank_driver.Goals.{in-Some, in_default}
use Rattle.rig.proofs.current.Current.bank_driver.Goals as goal

pub loop-n-init : goal.loop-n-init
loop-n-init c = rw c.none-drivers.ensures (no_drivers _, omega arith)

pub loop-n-preserved : goal.loop-n-preserved
loop-n-preserved c = let at = c.loop-n in elim c.match-own_fader.branch [
  | in-Some w ↦
      let more = w.drivers-is ∙ w.push.ensures in
      (one-driver _ at.n _ _ _ c.own_fader.ensures at.invariant.0 (more ∙ its_driver _ _ at.drivers w.in-Some.is), rw more (omega (arith, length-append at.drivers (w.in-Some.d.driver ∷ []), at.invariant.1)))
  | in_default w ↦
      (one-driver _ at.n _ _ _ c.own_fader.ensures at.invariant.0 (w.drivers-is ∙ no_driver _ at.drivers w.in_default.is), rw w.drivers-is (omega (arith, at.invariant.1)))
]

pub returns : goal.returns
unfolding bank_driver
returns c = let at = c.loop-n in
    let e : at.n ≡ 16 = omega arith in
    c.most_common.ensures.named ∙ ap (λ l. named (most_common l)) (c.as_slice.ensures ∙ at.invariant.0 ∙ ap (own_drivers _) e)
