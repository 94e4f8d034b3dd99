-- `printing::Held` loses no byte of a piece. Assumes nothing.
use Rattle.std.proofs.Common.{arith, rules}
use Rattle.printing.proofs.Handing.{hand_both}
use Rattle.printing.proofs.stdout.HeldSink.take.Goals as goal

-- with no room even in an empty buffer
pub returns-else-piece-le4096 : goal.returns-else-piece-le4096
returns-else-piece-le4096 g c = (search (rules, hand_both), λ room. absurd (omega arith))
