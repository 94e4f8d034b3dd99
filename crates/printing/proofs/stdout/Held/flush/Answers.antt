-- `printing::Held::flush` hands on what is held. Assumes nothing.
use Rattle.std.proofs.Common.{rules}
use Rattle.printing.proofs.Puts.{put_one}
use Rattle.printing.proofs.stdout.Held.flush.Goals as goal

pub returns-clause-handed : goal.returns-clause-handed
returns-clause-handed g c = search (rules, put_one)
