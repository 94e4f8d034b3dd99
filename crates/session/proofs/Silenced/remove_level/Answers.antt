use Rattle.std.proofs.Common.{refl, rules, arith}
use borrow.Author.Tests.{eq-eqb, ne_eqb}
use Rattle.base.proofs.KeyedLaws as laws
use Rattle.session.proofs.Laws.{closing_none, closing_yes, closing_no}
use Rattle.session.proofs.Silenced.remove_level.Goals as goal
use Rattle.session.proofs.Silenced.remove_level.Goals.{then-self-i, else-self-i}

pub loop-i-init : goal.loop-i-init
loop-i-init c = (search rules, refl, closing_none _ _ _ (search laws.long) (search laws.long))

pub loop-i-preserved : goal.loop-i-preserved
loop-i-preserved c =
    let p = c.loop-i in
    elim c.if-self-i.branch [
      | then-self-i w ↦ rw (w.self-is, w.kept-is) (omega arith, p.invariant.1, closing_yes _ _ _ _ _ _ _ p.invariant.2 (omega arith) (omega arith) (ne_eqb _ _ w.if-self-i.true))
      | else-self-i w ↦ rw (w.self-is, w.kept-is) (omega arith, p.invariant.1, closing_no _ _ _ _ _ _ _ p.invariant.2 (omega arith) (omega arith) (eq-eqb _ _ w.if-self-i.false))
    ]
