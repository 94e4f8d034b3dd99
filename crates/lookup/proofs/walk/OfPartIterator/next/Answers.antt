-- `lookup::walk::OfPart::next` meets its contract. Assumes nothing.
use Rattle.std.proofs.Common.{rules, tests}
use Rattle.lookup.specs.Rows.{of}
use Rattle.lookup.proofs.Rows.{next_of, progress}
use Rattle.lookup.proofs.walk.OfPartIterator.next.Goals as goal

pub returns-clause-steps : goal.returns-clause-steps
returns-clause-steps c =
    rw (← c.self.view_is) (next_of (of c.self.inside.kind c.self.inside.part) _ c.find.result c.find.new.self _ _ c.find.ensures.ran (λ x b q k. search (rules, tests)))

pub returns-clause-goes : goal.returns-clause-goes
returns-clause-goes c = progress _ _ _ (returns-clause-steps c)
