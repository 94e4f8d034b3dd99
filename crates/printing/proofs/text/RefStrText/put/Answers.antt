-- A `&str` is put as its bytes. Assumes nothing.
use Rattle.printing.proofs.Puts.{put_one}
use Rattle.printing.proofs.text.RefStrText.put.Goals as goal

pub returns : goal.returns
returns g c = put_one (rw (← c.as_bytes.ensures.value) c.take.ensures)
