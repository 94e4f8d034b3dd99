-- `profile::limits::limits_ok` meets its contract. Assumes nothing.
use Rattle.std.proofs.Common.{arith, rules, ◌≡◌, true, false}
use Rattle.std.proofs.Math.Bool.{and_assoc}
use Rattle.profile.specs.Profile.{byte_at}
use Rattle.profile.specs.Limits.{counted, row_at}
use Rattle.profile.proofs.LimitLaws.{tally_start, tally_le, tally_skip, tally_add, tally_limits}
use Rattle.profile.proofs.limits.limits_ok.Goals as goal
use Rattle.profile.proofs.limits.limits_ok.Goals.{then-is_counted, else-is_counted}

pub loop-k-init : goal.loop-k-init
loop-k-init c = tally_start _

pub overflow_add-table : goal.overflow_add-table
overflow_add-table c =
    let row : c.row.result ≡ row_at c.args.profile.now c.loop-k.k = cc in
    omega (arith, tally_le _ c.loop-k.table _ c.row.result c.loop-k.invariant c.row.ensures.1, c.requires.0)

pub loop-k-preserved : goal.loop-k-preserved
loop-k-preserved c =
    elim c.if-is_counted.branch [
      | then-is_counted w ↦
          let of : counted (byte_at c.args.profile.now c.loop-k.k 0) ≡ true = search rules in
          let row : w.row.result ≡ row_at c.args.profile.now c.loop-k.k = cc in
          rw w.table-is (tally_add _ _ _ _ of row w.row.ensures.1 c.loop-k.invariant)
      | else-is_counted w ↦
          let other : counted (byte_at c.args.profile.now c.loop-k.k 0) ≡ false = search rules in
          rw w.table-is (tally_skip _ _ _ other c.loop-k.invariant)
    ]

pub returns : goal.returns
returns c =
    rw and_assoc (tally_limits _ c.loop-k.table c.loop-k.k c.requires.1 (omega arith) (omega arith) c.loop-k.invariant _ _ _ c.all_at_most.ensures c.all_at_most-2.ensures c.all_at_most-3.ensures)
