-- `printing::MessageLine` is put as the definition's text. Assumes nothing.
use Rattle.printing.specs.Text.{message_line}
use Rattle.printing.proofs.Puts.{put_three}
use Rattle.printing.proofs.wire.MessageLineText.put.Goals as goal

pub returns : goal.returns
unfolding message_line
returns g c = put_three c.put.ensures c.put-2.ensures c.put-3.ensures
