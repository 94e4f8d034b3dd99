use Rattle.std.proofs.Common.{◌∙◌}
use Rattle.base.proofs.StdLaws.{list_any-any_of}
use Rattle.session.specs.Session.{is_silenced, same_target}
use Rattle.session.proofs.muting.is_silenced.Goals as goal

pub returns : goal.returns
unfolding is_silenced
returns c = c.contains.ensures.value ∙ list_any-any_of (same_target c.args.target) c.args.silenced_targets.now
