-- `printing::Waiting` is put as the definition's text. Assumes nothing.
use Rattle.printing.specs.Text.{waiting_lines}
use Rattle.printing.proofs.Puts.{put_three}
use Rattle.printing.proofs.lines.WaitingText.put.Goals as goal

pub returns : goal.returns
unfolding waiting_lines
returns g c = put_three c.put.ensures c.put-2.ensures c.put-3.ensures
