-- `lookup::lists::Buttons::put` meets its contract. Assumes nothing.
use Rattle.std.specs.Prelude.{◌≡◌, length}
use Rattle.std.specs.List.{position}
use Rattle.std.proofs.Common.{rules, tests, sym, ◌∙◌, arith}
use Rattle.std.proofs.lemmas.Iterator.{YieldsList-from_slice}
use Rattle.std.proofs.lemmas.Iterator.Search.{position_from_yields_List}
use Rattle.base.proofs.KeyedLaws as laws
use Rattle.lookup.specs.Lookup.{of_kind}
use Rattle.lookup.proofs.ButtonLaws.{put_in, put_out}
use Rattle.lookup.proofs.lists.Buttons.put.Goals as goal

pub returns-in-Some : goal.returns-in-Some
returns-in-Some c =
    let e : c.position-there.result ≡ position (of_kind c.args.button.kind) c.args.self.now = position_from_yields_List (of_kind c.args.button.kind) _ _ _ c.position-there.ensures.ran (YieldsList-from_slice c.args.self.now cc) (λ x b q k. search (rules, tests)) in
    let l : length c.self.inside.list ≡ 32 = search laws.long in
    put_in c.args.button _ _ _ c.in-Some.i c.self.view_is (omega (arith, c.self.invariant)) (sym e ∙ c.in-Some.is)

pub returns-in-None : goal.returns-in-None
returns-in-None c =
    let e : c.position-there.result ≡ position (of_kind c.args.button.kind) c.args.self.now = position_from_yields_List (of_kind c.args.button.kind) _ _ _ c.position-there.ensures.ran (YieldsList-from_slice c.args.self.now cc) (λ x b q k. search (rules, tests)) in
    c.push.ensures ∙ put_out c.args.button c.args.self.now (sym e ∙ c.in-None.is)
