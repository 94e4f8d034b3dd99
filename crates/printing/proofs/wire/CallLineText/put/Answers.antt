-- `printing::CallLine` is put as the definition's text. Assumes nothing.
use Rattle.printing.proofs.Laws.{call_joined}
use Rattle.printing.proofs.Puts.{put_as, put_four}
use Rattle.printing.proofs.wire.CallLineText.put.Goals as goal

pub returns : goal.returns
returns g c =
    put_as (call_joined c.args.self.now.0)
    (put_four c.put.ensures (rw c.kind_name.ensures at c.put-2.ensures) (rw c.from.ensures at c.put-3.ensures)
    (put_four (rw c.from-2.ensures at c.put-4.ensures) (rw c.from-3.ensures at c.put-5.ensures) c.put-6.ensures c.put-7.ensures))
