use Rattle.std.proofs.Common.{◌∙◌, length, refl, rules, tests}
use Rattle.base.proofs.StdLaws.{all_below}
use Rattle.shape.proofs.Laws.{New-in, each-new-in}
use Rattle.shape.proofs.none_twice.Goals as goal

pub returns : goal.returns
returns g c =
    let xs = c.args.list.now in
    let same = g.T.Keyed.same in
    all_below (New-in same xs) (length xs) c.all.ensures.ran refl (λ x b q k. search (rules, tests)) ∙ each-new-in same xs
