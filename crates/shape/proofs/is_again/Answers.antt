use Rattle.std.proofs.Common.{◌∙◌, sym, take, rules, tests}
use Rattle.std.proofs.lemmas.Option.{slice_get-get_or}
use Rattle.std.proofs.lemmas.Iterator.{YieldsList-from_slice}
use Rattle.std.proofs.lemmas.Iterator.Search.{any_from_yields_List}
use Rattle.shape.proofs.is_again.Goals as goal

pub returns : goal.returns
returns g c =
    let a = c.args in
    let x = c.index-list-i.result in
    rw (slice_get-get_or a.list.now a.i x c.requires, sym c.index-list-i.is)
    (any_from_yields_List (λ z. g.T.Keyed.same z x) _ _ _ c.any.ensures.ran (YieldsList-from_slice (take a.i a.list.now) c.iter.ensures.rest) (λ x b q k. search (rules, tests)))
