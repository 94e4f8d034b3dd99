-- `printing::put_decimal` meets its contract. Assumes nothing.
use Rattle.std.proofs.Common.{arith, ◌∙◌}
use Rattle.printing.proofs.Laws.{decimal_is}
use Rattle.printing.proofs.Puts.{put_as, put_one}
use Rattle.printing.proofs.put_decimal.Goals as goal

pub returns : goal.returns
returns g c = put_as (c.decimal-k.ensures.digits ∙ decimal_is c.args.n c.decimal-k.result (omega (arith, c.ranges.n)) c.decimal-k.ensures.len) (put_one c.take.ensures)
