use Rattle.std.proofs.Common.{◌≡◌, sym, ap, ◌∙◌, arith}
use Rattle.definition.specs.Rig.{first_target}
use Rattle.rig.proofs.Laws.{no_target, one_more, is-first, none-yet}
use Rattle.rig.proofs.current.Current.first_target.Goals as goal

pub loop-n-init : goal.loop-n-init
loop-n-init c = no_target _ _

pub returns-then-is_some : goal.returns-then-is_some
returns-then-is_some c = let at = c.loop-n in
    is-first _ _ _ at.n c.loop-n-test.true (sym c.is_some.ensures ∙ c.if-is_some.true) (one_more _ _ at.n _ _ c.own_fader.ensures c.target_on-target.ensures at.invariant)

pub loop-n-preserved : goal.loop-n-preserved
loop-n-preserved c = let at = c.loop-n in
    none-yet _ _ _ at.n (sym c.is_some.ensures ∙ c.if-is_some.false) (one_more _ _ at.n _ _ c.own_fader.ensures c.target_on-target.ensures at.invariant)

pub returns : goal.returns
returns c = let at = c.loop-n in
    let e : at.n ≡ 16 = omega arith in
    sym (ap (first_target _ _) (sym e) ∙ at.invariant)
