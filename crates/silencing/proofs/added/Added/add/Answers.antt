use Rattle.std.proofs.Common.{◌≡◌, ◌∙◌, ◌<◌, sym, length, take, arith}
use Rattle.base.proofs.StdLaws.{list_any-any_of}
use Rattle.base.proofs.FilledLaws.{taken, one_more}
use Rattle.definition.specs.Muting.{is_same}
use Rattle.silencing.proofs.Laws.{change_same, change_new}
use Rattle.silencing.proofs.added.Added.add.Goals as goal

pub returns-then-not-contains-clause-added : goal.returns-then-not-contains-clause-added
returns-then-not-contains-clause-added c =
    let s = c.self.inside in
    let is = is_same c.args.target in
    let long : length (take s.count s.list) ≡ s.count = taken 16 0 s.list s.count c.self.invariant in
    let room : s.count < length s.list = omega (arith, long, c.self.told, rw (← c.self.view_is) at c.requires) in
    rw (← c.self.view_is) (change_new is c.args.target s.list s.count room (sym (list_any-any_of is (take s.count s.list)) ∙ sym c.contains.ensures.value ∙ c.if-not-contains.true))

pub returns-else-not-contains-clause-added : goal.returns-else-not-contains-clause-added
returns-else-not-contains-clause-added c =
    let s = c.self.inside in
    let is = is_same c.args.target in
    rw (← c.self.view_is) (sym (change_same is c.args.target (take s.count s.list) (sym (list_any-any_of is (take s.count s.list)) ∙ sym c.contains.ensures.value ∙ c.if-not-contains.false)))

-- and there are zeros behind the list still
pub invariant_of-self : goal.invariant_of-self
invariant_of-self c = let s = c.self in
    one_more 16 0 s.inside.list s.inside.count c.args.target _ (omega arith) s.invariant (rw s.view_is c.requires)
