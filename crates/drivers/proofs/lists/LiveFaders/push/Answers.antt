use Rattle.std.proofs.Common.{arith}
use Rattle.drivers.specs.Shown.{no_fader}
use Rattle.base.proofs.FilledLaws.{one_more}
use Rattle.drivers.proofs.lists.LiveFaders.push.Goals as goal

pub invariant_of-self : goal.invariant_of-self
invariant_of-self c = let s = c.self in
    one_more 32 no_fader s.inside.list s.inside.count c.args.fader _ (omega arith) s.invariant (rw s.view_is c.requires)
