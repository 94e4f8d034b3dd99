-- `lookup::walk::of_part` meets its contract. Assumes nothing.
use Rattle.lookup.proofs.Rows.{few_rows}
use Rattle.lookup.proofs.walk.of_part.Goals as goal

pub returns-clause-few : goal.returns-clause-few
returns-clause-few c = rw c.up_to.ensures (few_rows c.args.profile.now c.args.kind c.args.part)
