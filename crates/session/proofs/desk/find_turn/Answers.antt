use Rattle.session.proofs.SessionLaws.{each_in_file}
use Rattle.std.proofs.iter.Serving.{serving}
use Rattle.session.proofs.desk.find_turn.Goals as goal

pub position-requires-clause-callable : goal.position-requires-clause-callable
position-requires-clause-callable c = grind (serving, each_in_file c.args.profile.now c.args.records.now c.requires)
