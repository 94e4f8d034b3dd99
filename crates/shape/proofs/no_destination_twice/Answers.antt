use Rattle.std.proofs.Common.{◌∙◌, length, refl, rules, tests}
use Rattle.base.proofs.StdLaws.{all_below}
use Rattle.definition.specs.Shape.{same_wire}
use Rattle.shape.proofs.Laws.{New, each-new}
use Rattle.shape.proofs.no_destination_twice.Goals as goal

pub returns : goal.returns
returns c =
    let p = c.args.profile.now in
    let xs = c.args.records.now in
    all_below (New (same_wire p) 0 xs) (length xs) c.all.ensures.ran refl (λ x b q k. search (rules, tests)) ∙ each-new (same_wire p) 0 xs
