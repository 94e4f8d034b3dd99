-- `lookup::times_in` meets its contract. Assumes nothing.
use Rattle.std.specs.Prelude.{◌≡◌, eqb, count_by}
use Rattle.std.proofs.Common.{rules, ◌∙◌}
use Rattle.base.proofs.StdLaws.{count_by-count}
use Rattle.lookup.specs.Lookup.{times}
use Rattle.lookup.proofs.times_in.Goals as goal

pub returns : goal.returns
unfolding times
returns c =
    let a = c.args in
    let e : c.count.result ≡ count_by (λ d. eqb d a.driver) a.drivers.now = search rules in
    e ∙ count_by-count (λ d. eqb d a.driver) 0 a.drivers.now
