-- `lookup::transports` meets its contract. Assumes nothing.
use Rattle.std.specs.Prelude.{◌≡◌, length}
use Rattle.std.proofs.Common.{sym, ap, ◌∙◌, arith, append_assoc, length-append}
use mathlib.Core.List.{append-nil}
use Rattle.lookup.specs.Lookup.{transports_of, merged}
use Rattle.lookup.specs.Rows.{rows_of}
use Rattle.lookup.proofs.TransportLaws.{buttons, buttons-length, few_buttons, few_placed}
use Rattle.lookup.proofs.transports.Goals as goal

pub loop-row-init : goal.loop-row-init
loop-row-init c = rw (c.none-buttons.ensures, c.into_iter-row-iterator.ensures.into_iter_gives, c.of_part-row-items.ensures.value) (buttons c.args.profile.now c.args.bank)

pub push-requires : goal.push-requires
push-requires c =
    let e = sym (length-append c.loop-row.buttons _) ∙ ap length c.loop-row.invariant in
    omega (arith, e, few_buttons c.args.profile.now c.args.bank c.requires (omega arith))

pub loop-row-preserved : goal.loop-row-preserved
loop-row-preserved c = rw (c.push.ensures, append_assoc, c.of.ensures) (rw c.in-Some.ensures.steps at c.loop-row.invariant)

pub loop-row-2-init : goal.loop-row-2-init
loop-row-2-init c =
    let s = c.args.profile.now in
    let own : c.loop-row.buttons ≡ transports_of s c.args.bank = sym (append-nil c.loop-row.buttons) ∙ rw c.in-None.ensures.steps.0 at c.loop-row.invariant in
    let all : c.into_iter-row-iterator-2.result ≡ rows_of s 5 255 = c.into_iter-row-iterator-2.ensures.into_iter_gives ∙ c.of_part-row-items-2.ensures.value in (
      rw (own, all, buttons s 255),
      rw (own, all) (omega (arith, buttons-length s 255, few_buttons s 255 c.requires (omega arith), few_buttons s c.args.bank c.requires (omega arith))),
    )

pub put-requires : goal.put-requires
put-requires c = omega (arith, c.loop-row-2.invariant.1, ap length c.in-Some-row.ensures.steps)

pub loop-row-2-preserved : goal.loop-row-2-preserved
unfolding merged
loop-row-2-preserved c = (
  rw (c.put.ensures, c.of-in-loop-row-2.ensures) (rw c.in-Some-row.ensures.steps at c.loop-row-2.invariant.0),
  omega (arith, c.loop-row-2.invariant.1, ap length c.in-Some-row.ensures.steps, ap length c.put.ensures, few_placed c.of-in-loop-row-2.result c.loop-row-2.buttons),
)

pub returns : goal.returns
unfolding merged
returns c = rw c.in-None-row.ensures.steps.0 at c.loop-row-2.invariant.0
