use Rattle.std.proofs.Common.{rules, arith}
use Rattle.delivery.proofs.Laws.{ends_waiting, ends_stopped, ends_done}
use Rattle.delivery.proofs.ending.Goals as goal

pub returns-in-Going : goal.returns-in-Going
returns-in-Going c =
    let io = c.args.io.now in
    ends_done io c.args.saved _ _ _ _ c.in-Going.is (search rules) (search rules) c.put-in-Going.ensures.bytes c.put.ensures.copied c.put-in-Going.ensures.copied

pub returns-in-Waits : goal.returns-in-Waits
returns-in-Waits c = ends_waiting _ _ _ _ _ c.in-Waits.is

pub returns-in-Declined : goal.returns-in-Declined
returns-in-Declined c = ends_stopped _ _ _ _ c.in-Declined.is
