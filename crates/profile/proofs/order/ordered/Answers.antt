-- `profile::order::ordered` meets its contract. Assumes nothing.
use Rattle.std.proofs.Common.{arith, rules, ◌≡◌, ◌-◌, false, true}
use Rattle.profile.specs.Order.{follows_at}
use Rattle.profile.proofs.Ordered.{none_first, rest_none, rest_more, rest_stop, none_found, all_found}
use Rattle.profile.proofs.order.ordered.Goals as goal

pub returns-then-from-eq0 : goal.returns-then-from-eq0
returns-then-from-eq0 c = none_found _ (none_first _ (rw c.if-from-eq0.true at c.leading-from.ensures.stops))

pub loop-k-init : goal.loop-k-init
loop-k-init c = rest_none _ _ c.if-from-eq0.false c.leading-from.ensures.lead c.leading-from.ensures.stops

pub returns-then-not-follows : goal.returns-then-not-follows
returns-then-not-follows c =
    let e : follows_at c.args.profile.now c.loop-k.k c.loop-k.last (c.leading-from.result - 1) ≡ false = search rules in
    none_found _ (rest_stop _ _ c.loop-k.last c.loop-k.k (omega arith) c.loop-k.invariant e)

pub loop-k-preserved : goal.loop-k-preserved
loop-k-preserved c =
    let e : follows_at c.args.profile.now c.loop-k.k c.loop-k.last (c.leading-from.result - 1) ≡ true = search rules in
    rw (c.kind-last.ensures, c.at-here.ensures.0, c.at-here.ensures.1) (rest_more _ _ c.loop-k.last c.loop-k.k (omega arith) c.loop-k.invariant e)

pub returns : goal.returns
returns c = all_found _ _ c.loop-k.last c.loop-k.k c.if-from-eq0.false (omega arith) (omega arith) c.loop-k.invariant
