-- `profile::examine` meets its contract. Assumes nothing.
use Rattle.std.proofs.Common.{rules, ◌≡◌, true, length, leb-true}
use Rattle.base.proofs.RangeLaws.{every-at}
use Rattle.profile.specs.Profile.{size_ok}
use Rattle.profile.proofs.examine.Goals as goal

pub limits_ok-requires : goal.limits_ok-requires
limits_ok-requires c =
    let ok : size_ok c.args.profile.now ≡ true = search rules in
    (leb-true (length c.args.profile.now) 65536 (every-at _ 1 ok), search rules)
