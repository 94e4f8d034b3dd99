use Rattle.std.proofs.Common.{◌+◌, refl, rules, tests}
use Rattle.base.proofs.StdLaws.{all_below}
use Rattle.session.specs.Session.{same_strips, same_at, strip_at, strips_or, seen_strips}
use Rattle.session.proofs.Strips.same.Goals as goal

pub returns : goal.returns
unfolding same_strips
returns c =
    let a = strips_or (seen_strips c.args.self.now) in
    let b = strips_or (seen_strips c.args.other.now) in
    all_below (λ i. same_at (strip_at (i + 1) a) (strip_at (i + 1) b)) 8 c.all.ensures.ran refl (λ x r q k. search (rules, tests))
