-- `lookup::most_common` meets its contract. Assumes nothing.
use Rattle.std.proofs.Common.{refl, ap, ◌∙◌, arith}
use Rattle.lookup.specs.Lookup.{or_absent, named}
use Rattle.lookup.proofs.NamedLaws.{named_back}
use Rattle.lookup.proofs.CommonLaws.{leads_keep, leads_new, leads_done}
use Rattle.lookup.proofs.most_common.Goals.{then-often-times, else-often-times}
use Rattle.lookup.proofs.most_common.Goals as goal

pub loop-driver-preserved : goal.loop-driver-preserved
loop-driver-preserved c =
    let i = c.loop-driver in
    elim c.if-often-times.branch [
      | then-often-times w ↦ rw (w.best-is, w.often-is) (
        leads_new _ _ _ _ i.invariant.0 _ c.times_in-times.ensures _ refl w.if-often-times.true,
        λ n q. omega (arith, ap or_absent q, c.type_inv.drivers i.driver-index),
      )
      | else-often-times w ↦ rw (w.best-is, w.often-is) (leads_keep _ _ _ _ i.invariant.0 _ c.times_in-times.ensures c.loop-driver-test.true w.if-often-times.false, i.invariant.1)
    ]

pub returns-clause-value : goal.returns-clause-value
returns-clause-value c = leads_done _ _ _ _ c.loop-driver.invariant.0 (omega arith)

pub returns-clause-named : goal.returns-clause-named
returns-clause-named c = named_back _ c.loop-driver.invariant.1 ∙ ap named (leads_done _ _ _ _ c.loop-driver.invariant.0 (omega arith))
