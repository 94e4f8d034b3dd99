-- A `&[u8]` is put as its bytes. Assumes nothing.
use Rattle.printing.proofs.Puts.{put_one}
use Rattle.printing.proofs.text.RefSliceU8Text.put.Goals as goal

pub returns : goal.returns
returns g c = put_one c.take.ensures
