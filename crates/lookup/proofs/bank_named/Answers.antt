-- `lookup::bank_named` meets its contract. Assumes nothing.
use Rattle.std.specs.Prelude.{eqb}
use Rattle.std.proofs.Common.{rules, tests, arith}
use Rattle.base.proofs.StdLaws.{find_below}
use Rattle.profile.proofs.Accepted.{few_banks}
use Rattle.profile.specs.Profile.{bank_count}
use Rattle.lookup.specs.Lookup.{bank_named, name_of}
use Rattle.lookup.proofs.bank_named.Goals as goal

pub overflow_cast-banks : goal.overflow_cast-banks
overflow_cast-banks c = omega (arith, few_banks _ c.requires, c.bank_count-banks.ensures)

pub returns : goal.returns
unfolding bank_named
returns c =
    let a = c.args in
    find_below (λ b. eqb (name_of a.profile.now b) a.name) (bank_count a.profile.now) c.find.result _ c.find.ensures.ran (cc) (λ x b q k. search (rules, tests))
