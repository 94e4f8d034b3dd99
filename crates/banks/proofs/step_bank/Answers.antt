-- `banks::step_bank` meets its contract. Assumes nothing.
use Rattle.std.proofs.Common.{ne_eqb}
use Rattle.drivers.specs.Talk.{next}
use Rattle.banks.proofs.step_bank.Goals as goal

pub returns-clause-value : goal.returns-clause-value
unfolding next
returns-clause-value c = rw (ne_eqb _ _ c.if-there-bank.false, ← c.select_bank.ensures.value)
