-- `printing::ProfileRefused` is put as the definition's text. Assumes nothing.
use Rattle.printing.specs.Text.{profile_line}
use Rattle.printing.proofs.Puts.{put_three}
use Rattle.printing.proofs.lines.ProfileRefusedText.put.Goals as goal

pub returns : goal.returns
unfolding profile_line
returns g c = put_three c.put.ensures (rw c.from.ensures at c.put-2.ensures) c.put-3.ensures
