-- `lookup::scene_name` meets its contract. Assumes nothing.
use Rattle.std.proofs.Common.{rules}
use Rattle.std.proofs.lemmas.Iterator.Consumers.{YieldsList-from_first, nth_from_yields_List}
use Rattle.lookup.specs.Rows.{row_of}
use Rattle.lookup.proofs.SceneLaws.{scene_named}
use Rattle.lookup.proofs.scene_name.Goals as goal

pub returns : goal.returns
returns c = scene_named _ _ _ _ c.nth.result (nth_from_yields_List c.nth.result _ _ c.nth.ensures.ran (YieldsList-from_first row_of (λ left. left) _ c.of_part.ensures.value)) (search rules)
