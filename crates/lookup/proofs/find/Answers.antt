-- `lookup::find` meets its contract. Assumes nothing.
use Rattle.std.proofs.Common.{rules, tests, ◌∙◌}
use Rattle.std.proofs.lemmas.Iterator.Consumers.{YieldsList-from_first}
use Rattle.std.proofs.lemmas.Iterator.Search.{find_from_yields_List}
use Rattle.lookup.specs.Lookup.{entry, is_entry, reach}
use Rattle.lookup.specs.Rows.{row_of}
use Rattle.lookup.proofs.Rows.{find_rows, found}
use Rattle.lookup.proofs.find.Goals as goal

pub returns : goal.returns
unfolding entry
returns c =
    let a = c.args in
    let w = found a.profile.now c.find.result _
    (find_from_yields_List _ _ _ c.find.result c.find.ensures.ran (YieldsList-from_first row_of (λ left. left) _ c.up_to.ensures) (λ x b q k. search (rules, tests))
    ∙ find_rows a.profile.now (λ r. is_entry r.profile a.kind a.part a.number r.k) (reach a.profile.now a.kind)) in
    record { place = w.0; in_profile = w.1 }
