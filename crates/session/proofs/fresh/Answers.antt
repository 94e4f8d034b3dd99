use Rattle.std.proofs.Common.{rules}
use Rattle.session.specs.Session.{fresh_session, no_marks, none_lit}
use Rattle.session.proofs.fresh.Goals as goal

pub returns : goal.returns
unfolding fresh_session no_marks none_lit
returns c = search rules
