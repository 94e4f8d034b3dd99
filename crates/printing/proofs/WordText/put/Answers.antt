-- `printing::Word` is put as the definition's text. Assumes nothing.
use Rattle.printing.proofs.Puts.{put_two}
use Rattle.printing.proofs.WordText.put.Goals as goal

pub returns : goal.returns
returns g c = put_two c.put.ensures c.put_decimal.ensures
