use Rattle.std.proofs.Common.{rules, tests, ◌∙◌, ℕ, ◌-◌, Bool, ◌&&◌, leb, ltb, get_or}
use Rattle.std.proofs.lemmas.Iterator.{YieldsList-from_slice}
use Rattle.std.proofs.lemmas.Iterator.Search.{position_from_yields_List}
use Rattle.base.proofs.FirstLaws.{first_cong}
use Rattle.base.proofs.StdLaws.{position-first}
use Rattle.protocol.specs.Protocol.{base_of, channel_bases, is_of_base}
use Rattle.protocol.proofs.Laws.{below_eight}
use Rattle.protocol.proofs.base_of.Goals as goal

abbrev starts : ℕ → ℕ → Bool
starts note base = leb base note && ltb (note - base) 8

pub returns : goal.returns
unfolding base_of
returns c =
    let note = c.args.note in
    position_from_yields_List (starts note) _ _ _ c.position.ensures.ran (YieldsList-from_slice channel_bases (cc)) (λ x b q k. search (rules, tests))
    ∙ position-first (starts note) 0 channel_bases
    ∙ first_cong _ (is_of_base note) 4 (λ k l. below_eight note (get_or channel_bases k 0))
