-- `scenes::load::load_on` meets its contract. Assumes nothing.
use Rattle.std.specs.Prelude.{◌≤◌, length}
use Rattle.std.proofs.Common.{rules}
use Rattle.scenes.proofs.Laws.{told_low}
use Rattle.scenes.proofs.load.load_on.Goals as goal

pub overflow_cast-place : goal.overflow_cast-place
overflow_cast-place c =
    let few : length c.in-Some.names ≤ 128 = search rules in
    rw (c.unwrap_or-place.ensures, c.place_in.ensures) (told_low c.args.name c.args.i c.in-Some.names few c.requires)
