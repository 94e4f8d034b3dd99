-- `profile::record::count_kind` meets its contract. Assumes nothing.
use Rattle.std.proofs.Common.{rules, ◌∙◌}
use Rattle.base.proofs.StdLaws.{count_below}
use Rattle.profile.specs.Profile.{is_kind, kind_count}
use Rattle.profile.proofs.record.count_kind.Goals as goal

pub returns : goal.returns
unfolding kind_count
returns c =
    count_below (is_kind c.args.profile.now c.args.kind) _ c.count-2.ensures.ran (c.filter.ensures.source ∙ rw c.count.ensures) c.filter.ensures.closure (λ x b q k. search rules)
