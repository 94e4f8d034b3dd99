-- `printing::Refused` is put as the definition's text. Assumes nothing.
use Rattle.printing.specs.Text.{refused_line}
use Rattle.printing.proofs.Puts.{put_four}
use Rattle.printing.proofs.lines.RefusedText.put.Goals as goal

pub returns : goal.returns
unfolding refused_line
returns g c = put_four c.put.ensures c.put-2.ensures (rw c.from.ensures at c.put-3.ensures) c.put-4.ensures
