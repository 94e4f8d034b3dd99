use Rattle.std.proofs.Common.{rules, tests, ◌∙◌, ◌==◌}
use Rattle.std.proofs.lemmas.Iterator.{YieldsList-from_slice}
use Rattle.std.proofs.lemmas.Iterator.Search.{position_from_yields_List}
use Rattle.base.proofs.StdLaws.{position-first}
use Rattle.protocol.specs.Protocol.{named_of, named}
use Rattle.protocol.proofs.named_of.Goals as goal

pub returns : goal.returns
unfolding named_of
returns c =
    position_from_yields_List (λ y. y == c.args.note) _ _ _ c.position.ensures.ran (YieldsList-from_slice named (cc)) (λ x b q k. search (rules, tests))
    ∙ position-first (λ y. y == c.args.note) 0 named
