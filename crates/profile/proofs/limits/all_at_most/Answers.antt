-- `profile::limits::all_at_most` meets its contract. Assumes nothing.
use Rattle.std.proofs.Common.{rules, arith, ◌∙◌, ◌&&◌}
use Rattle.std.specs.Prelude.{leb}
use Rattle.std.proofs.lemmas.Iterator.{YieldsList-from_slice}
use Rattle.std.proofs.lemmas.Iterator.Consumers.{fold_from_yields_List}
use Rattle.profile.specs.Limits.{all_at_most}
use Rattle.profile.proofs.Chains.{fold-all}
use Rattle.profile.proofs.limits.all_at_most.Goals as goal

pub returns : goal.returns
unfolding all_at_most
returns c =
    fold_from_yields_List _ (λ ok n. ok && leb n c.args.limit) _ _ c.fold.ensures.ran (YieldsList-from_slice _ c.iter.ensures.rest) (λ a x b q k. search rules)
    ∙ fold-all (λ n. leb n c.args.limit) c.args.table.now c.args.from 256 (omega (arith, c.requires))
