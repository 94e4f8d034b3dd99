-- `profile::record::Record::is_zeros` meets its contract. Assumes nothing.
use Rattle.std.proofs.Common.{rules, arith, ap, ◌∙◌, ◌+◌, ◌*◌, ℕ, get_or, ◌&&◌, eqb}
use Rattle.std.proofs.lemmas.Iterator.{YieldsList-from_slice}
use Rattle.std.proofs.lemmas.Iterator.Consumers.{fold_from_yields_List}
use Rattle.base.proofs.RangeLaws.{all_cong}
use Rattle.profile.proofs.Chains.{fold-all}
use Rattle.profile.proofs.record.Record.is_zeros.Goals as goal

pub returns : goal.returns
returns c =
    let s = c.args.self.profile.now in
    let from = c.args.self.k * 32 + c.args.a in
    let n = c.args.n in
    fold_from_yields_List _ (λ ok b. ok && eqb b 0) _ _ c.fold.ensures.ran (YieldsList-from_slice _ c.iter.ensures.rest) (λ a x b q k. search rules)
    ∙ fold-all (λ b. eqb b 0) s from n (omega (arith, c.args.self.there))
    ∙ all_cong _ _ n (λ j l. ap (λ (i : ℕ). eqb (get_or s i 0) 0) (omega arith))
