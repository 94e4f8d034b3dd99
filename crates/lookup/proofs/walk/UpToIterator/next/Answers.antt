-- `lookup::walk::UpTo::next` meets its contract. Assumes nothing.
use Rattle.std.proofs.Common.{sym, ◌∙◌, arith}
use Rattle.base.proofs.FirstLaws.{first_more}
use Rattle.lookup.proofs.Rows.{rows_end, rows_past, not_past, rows_next, progress}
use Rattle.lookup.proofs.walk.UpToIterator.next.Goals as goal

pub returns-then-self-count-clause-steps : goal.returns-then-self-count-clause-steps
returns-then-self-count-clause-steps c =
    let e = sym c.self.view_is ∙ rows_end _ c.self.inside.kind _ (omega arith) in (e, e)

pub returns-then-self-kind-clause-steps : goal.returns-then-self-kind-clause-steps
returns-then-self-kind-clause-steps c =
    let e = sym c.self.view_is ∙ rows_past _ _ _ _ c.self.invariant (omega arith) (cc) c.if-self-kind.true in (e, e)

pub invariant_of-self : goal.invariant_of-self
invariant_of-self c = first_more _ _ c.self.invariant (not_past _ _ _ c.kind.result c.self.invariant (omega arith) (cc) c.if-self-kind.false)

pub returns-clause-steps : goal.returns-clause-steps
returns-clause-steps c = sym c.self.view_is ∙ rows_next _ _ _ _ c.self.invariant (omega arith) (cc) c.if-self-kind.false ∙ rw (c.at-row.ensures.0, c.at-row.ensures.1)

pub returns-clause-goes : goal.returns-clause-goes
returns-clause-goes c = progress _ _ _ (returns-clause-steps c)
