-- `profile::order::leading` meets its contract. Assumes nothing.
use Rattle.std.proofs.Common.{rules, arith, ◌∙◌, ◌≡◌, refl}
use Rattle.std.proofs.lemmas.Iterator.{YieldsList-from_range}
use Rattle.std.proofs.lemmas.Iterator.Consumers.{YieldsList-at, count_from_yields_List}
use Rattle.std.proofs.lemmas.Iterator.Search.{YieldsList-from_take_while}
use Rattle.profile.specs.Profile.{records}
use Rattle.profile.specs.Order.{leads_at}
use Rattle.profile.proofs.Chains.{front, front-le, front_all, front_stops, length-front}
use Rattle.profile.proofs.order.leading.Goals as goal

pub returns : goal.returns
returns c =
    let p = leads_at c.args.profile.now in
    let n = records c.args.profile.now in
    let h : c.count-2.result ≡ front p n =
    count_from_yields_List _ _ c.count-2.ensures.ran
    (YieldsList-from_take_while _ p (YieldsList-at c.take_while.ensures.source (YieldsList-from_range 0 c.count.result n refl (omega arith))) c.take_while.ensures.closure c.take_while.ensures.done (λ x b q k. search rules))
    ∙ length-front p n in
    record { in_file = rw h (front-le p n); lead = rw h (front_all p n); stops = rw h (front_stops p n) }
