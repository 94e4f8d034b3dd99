-- `lookup::lists::Drivers::push` leaves zeros behind the list. Assumes nothing.
use Rattle.std.proofs.Common.{arith}
use Rattle.base.proofs.FilledLaws.{one_more}
use Rattle.lookup.proofs.lists.Drivers.push.Goals as goal

pub invariant_of-self : goal.invariant_of-self
invariant_of-self c = let s = c.self in
    one_more 16 0 s.inside.list s.inside.count c.args.driver _ (omega arith) s.invariant (rw s.view_is c.requires)
