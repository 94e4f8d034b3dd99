-- `run::told::Told` is put as the definition's text. Assumes nothing.
use Rattle.std.proofs.Common.{rules}
use Rattle.printing.proofs.Puts.{put_as, put_two, put_four}
use Rattle.run.proofs.Laws.{done_so}
use Rattle.run.proofs.told.ToldText.put.Goals as goal

pub returns-in-Done : goal.returns-in-Done
returns-in-Done g c =
    let t = c.args.self.now in
    rw c.in-Done.is
    (put_as (done_so t.n c.in-Done.messages c.in-Done.calls t.messages t.calls (search rules) (search rules))
    (put_four c.put.ensures c.put-in-Done.ensures c.put-in-Done-2.ensures (put_two c.put-in-Done-3.ensures c.put-in-Done-4.ensures)))
