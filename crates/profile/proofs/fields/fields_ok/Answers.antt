-- `profile::fields::fields_ok` meets its contract. Assumes nothing.
use Rattle.std.proofs.Common.{rules}
use Rattle.base.proofs.StdLaws.{all_below}
use Rattle.profile.specs.Profile.{fields_ok, record_ok}
use Rattle.profile.proofs.fields.fields_ok.Goals as goal

pub returns : goal.returns
unfolding fields_ok
returns c = all_below (record_ok c.args.profile.now) _ c.all.ensures.ran (rw c.count.ensures) (λ x b q k. search rules)
