-- `printing::put_bits` meets its contract. Assumes nothing.
use Rattle.std.proofs.Common.{arith, ◌∙◌}
use Rattle.printing.proofs.Laws.{bits_are}
use Rattle.printing.proofs.Puts.{put_as, put_one}
use Rattle.printing.proofs.put_bits.Goals as goal

pub returns : goal.returns
returns g c = put_as (c.hex-k.ensures.digits ∙ bits_are c.args.n c.hex-k.result (omega (arith, c.ranges.n)) c.hex-k.ensures.len) (put_one c.take.ensures)
