-- `profile::order::once_each` meets its contract. Assumes nothing.
use Rattle.std.proofs.Common.{arith, rules, ◌≡◌, true, false, sym, ◌∙◌}
use Rattle.base.proofs.RangeLaws.{all_done, all_stop}
use Rattle.profile.specs.Profile.{byte_at, control, once_each}
use Rattle.profile.specs.Order.{slot_at}
use Rattle.profile.proofs.OrderLaws.{once_start, once_skip, once_mark, once_found}
use Rattle.profile.proofs.Behind.{once_past}
use Rattle.profile.proofs.order.once_each.Goals as goal
use Rattle.profile.proofs.order.once_each.Goals.{then-is_control+else-seen-slot, else-is_control}

pub loop-k-init : goal.loop-k-init
loop-k-init c = once_start _

pub returns-then-kind-gt3 : goal.returns-then-kind-gt3
returns-then-kind-gt3 c =
    let kind : c.kind-kind.result ≡ byte_at c.args.profile.now c.loop-k.k 0 = cc in
    sym c.loop-k.invariant.none ∙ once_past c.args.profile.now c.loop-k.k c.requires.1 (omega arith) (λ l. omega arith)

pub returns-then-seen-slot : goal.returns-then-seen-slot
unfolding once_each
returns-then-seen-slot c =
    let of : control (byte_at c.args.profile.now c.loop-k.k 0) ≡ true = search rules in
    let slot : c.slot-slot.result ≡ slot_at c.args.profile.now c.loop-k.k = cc in
    all_stop _ _ c.loop-k.k (omega arith) (once_found _ _ c.loop-k.seen c.requires.0 (omega arith) of c.loop-k.invariant (rw slot at c.if-seen-slot.true))

pub loop-k-preserved : goal.loop-k-preserved
loop-k-preserved c =
    elim c.if-is_control.branch [
      | then-is_control+else-seen-slot w ↦
          let of : control (byte_at c.args.profile.now c.loop-k.k 0) ≡ true = search rules in
          let slot : w.slot-slot.result ≡ slot_at c.args.profile.now c.loop-k.k = cc in
          rw w.seen-is (rw slot (once_mark _ _ c.loop-k.seen c.requires.0 (omega arith) of c.loop-k.invariant (rw slot at w.if-seen-slot.false)))
      | else-is_control w ↦
          let other : control (byte_at c.args.profile.now c.loop-k.k 0) ≡ false = search rules in
          rw w.seen-is (once_skip _ _ _ other c.loop-k.invariant)
    ]

pub returns : goal.returns
unfolding once_each
returns c = all_done _ _ _ (omega arith) (omega arith) c.loop-k.invariant.none
