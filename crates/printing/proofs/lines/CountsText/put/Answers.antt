-- `printing::Counts` is put as the definition's text. Assumes nothing.
use Rattle.printing.specs.Text.{count_words}
use Rattle.printing.proofs.Puts.{put_four}
use Rattle.printing.proofs.lines.CountsText.put.Goals as goal

pub returns : goal.returns
unfolding count_words
returns g c = put_four c.put.ensures c.put-2.ensures c.put-3.ensures c.put-4.ensures
