-- `lookup::scene_position` meets its contract. Assumes nothing.
use Rattle.std.proofs.Common.{◌∙◌, arith, rules, tests}
use Rattle.std.proofs.lemmas.Iterator.Consumers.{YieldsList-from_first}
use Rattle.std.proofs.lemmas.Iterator.Search.{position_from_yields_List}
use mathlib.Core.Logic.{inl}
use Rattle.std.specs.Prelude.{eqb}
use Rattle.profile.specs.Profile.{half_at}
use Rattle.lookup.specs.Rows.{row_of}
use Rattle.lookup.proofs.SceneLaws.{scene_place}
use Rattle.lookup.proofs.scene_position.Goals as goal

pub position-requires-clause-fits : goal.position-requires-clause-fits
position-requires-clause-fits c = inl (omega (arith, c.of_part.ensures.few))

pub returns : goal.returns
returns c =
    position_from_yields_List (λ r. eqb (half_at r.profile r.k 4) c.args.name) _ _ _ c.position.ensures.ran (YieldsList-from_first row_of (λ left. left) _ c.of_part.ensures.value) (λ x b q k. search (rules, tests))
    ∙ scene_place _ _ _
