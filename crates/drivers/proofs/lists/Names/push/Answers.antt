use Rattle.std.proofs.Common.{arith}
use Rattle.base.proofs.FilledLaws.{one_more}
use Rattle.drivers.proofs.lists.Names.push.Goals as goal

pub invariant_of-self : goal.invariant_of-self
invariant_of-self c = let s = c.self in
    one_more 128 0 s.inside.list s.inside.count c.args.name _ (omega arith) s.invariant (rw s.view_is c.requires)
