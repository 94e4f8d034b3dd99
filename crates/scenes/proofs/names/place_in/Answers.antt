-- `scenes::names::place_in` meets its contract. Assumes nothing.
use Rattle.std.proofs.Common.{rules, tests, ◌∙◌}
use Rattle.std.proofs.lemmas.Iterator.{YieldsList-from_slice}
use Rattle.std.proofs.lemmas.Iterator.Search.{position_from_yields_List}
use Rattle.std.specs.Prelude.{eqb}
use Rattle.scenes.proofs.Laws.{place_among}
use Rattle.scenes.proofs.names.place_in.Goals as goal

pub returns : goal.returns
returns c =
    position_from_yields_List (λ x. eqb x c.args.name) _ _ _ c.position.ensures.ran (YieldsList-from_slice c.args.names.now cc) (λ x b q k. search (rules, tests))
    ∙ place_among _ _
