-- `profile::ends::finite_ok` meets its contract. Assumes nothing.
use Rattle.std.proofs.Common.{rules, arith, ◌∙◌, refl, ℕ}
use Rattle.std.specs.Prelude.{leb}
use Rattle.std.proofs.lemmas.Bool.{leb-false}
use Rattle.std.proofs.lemmas.Iterator.{YieldsList-from_range}
use Rattle.std.proofs.lemmas.Iterator.Consumers.{YieldsList-at}
use Rattle.std.proofs.lemmas.Iterator.Search.{all_from_yields_List, YieldsList-from_take_while}
use Rattle.profile.specs.Profile.{records, byte_at, ends_finite}
use Rattle.profile.proofs.Chains.{front, front-le, front_stops, list_all-front}
use Rattle.profile.proofs.Behind.{finite_past, all-ordered}
use Rattle.profile.proofs.ends.finite_ok.Goals as goal

pub returns : goal.returns
returns c =
    let s = c.args.profile.now in
    let low = λ (k : ℕ). leb (byte_at s k 0) 3 in
    let n = records s in
    all_from_yields_List (ends_finite s) _ _ _ c.all.ensures.ran
    (YieldsList-from_take_while _ low (YieldsList-at c.take_while.ensures.source (YieldsList-from_range 0 c.count.result n refl (omega arith))) c.take_while.ensures.closure c.take_while.ensures.done (λ x b q k. search rules))
    (λ x b q k. search rules)
    ∙ list_all-front low n (ends_finite s)
    ∙ finite_past s (front low n) (all-ordered s c.requires) (front-le low n) (λ l. leb-false _ 3 (front_stops low n l))
