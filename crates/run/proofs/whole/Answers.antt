-- `run::whole` meets its contract. Assumes nothing.
use Rattle.std.proofs.Common.{sym}
use Rattle.printing.proofs.Puts.{put_as}
use Rattle.run.proofs.Laws.{program_runs, program_refused}
use Rattle.run.proofs.whole.Goals as goal

pub returns-in-Ok : goal.returns-in-Ok
returns-in-Ok g c =
    let a = c.args in put_as (program_runs a.profile.now a.events.now a.answers.now (sym (rw c.in-Ok.is at c.examine.ensures))) c.all.ensures

pub returns-in-Err : goal.returns-in-Err
returns-in-Err g c =
    let a = c.args in
    put_as (rw c.number.ensures (program_refused a.profile.now a.events.now a.answers.now c.in-Err.cause (rw c.in-Err.is at c.examine.ensures))) c.put.ensures
