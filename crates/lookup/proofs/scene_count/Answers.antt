-- `lookup::scene_count` meets its contract. Assumes nothing.
use Rattle.std.proofs.Common.{◌∙◌, arith}
use Rattle.std.proofs.lemmas.Iterator.Consumers.{YieldsList-from_first, count_from_yields_List}
use mathlib.Core.Logic.{inl}
use Rattle.lookup.specs.Rows.{row_of}
use Rattle.lookup.proofs.SceneLaws.{scenes-counted}
use Rattle.lookup.proofs.scene_count.Goals as goal

pub count-requires-clause-fits : goal.count-requires-clause-fits
count-requires-clause-fits c = inl (omega (arith, c.of_part.ensures.few))

pub returns : goal.returns
returns c = count_from_yields_List _ c.count.result c.count.ensures.ran (YieldsList-from_first row_of (λ left. left) _ c.of_part.ensures.value) ∙ scenes-counted _ _
