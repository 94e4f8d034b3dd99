-- `run::one` meets its contract. Assumes nothing.
use Rattle.std.proofs.Common.{◌∙◌}
use Rattle.std.proofs.Math.Path.{ap}
use Rattle.definition.specs.Step.{Stepped}
use Rattle.bridge.proofs.CountsLaws.{delivers_used}
use Rattle.bridge.proofs.ShapedLaws.{stays-shaped}
use Rattle.printing.proofs.Puts.{put_as}
use Rattle.run.specs.Said.{event_text}
use Rattle.run.proofs.Laws.{said_so, accepted, used_so, where_given}
use Rattle.run.proofs.one.Goals as goal

pub returns-clause-out_after : goal.returns-clause-out_after
returns-clause-out_after g c =
    let a = c.args in
    put_as
    (said_so _ _ _ _ _ _ _ _ _ _ _ c.step-r.ensures a.n
    ∙ ap (λ (r : Stepped). event_text a.n r.ended) (accepted a.profile.now a.session a.event.now a.answers.now c.requires.verdict_value c.requires.shaped))
    c.put.ensures

pub returns-clause-session_value : goal.returns-clause-session_value
returns-clause-session_value g c =
    let a = c.args in
    c.step-r.ensures.leaves.session
    ∙ ap (λ (r : Stepped). r.kept) (accepted a.profile.now a.session a.event.now a.answers.now c.requires.verdict_value c.requires.shaped)

pub returns-clause-still_shaped : goal.returns-clause-still_shaped
returns-clause-still_shaped g c = stays-shaped _ _ _ _ _ _ _ _ c.step-r.ensures c.requires.shaped

pub returns-clause-used_value : goal.returns-clause-used_value
returns-clause-used_value g c =
    let a = c.args in
    rw (c.used_by.ensures, c.step-r.ensures.outcome, accepted a.profile.now a.session a.event.now a.answers.now c.requires.verdict_value c.requires.shaped) (used_so _)

pub returns-clause-used_in_bounds : goal.returns-clause-used_in_bounds
returns-clause-used_in_bounds g c = rw c.used_by.ensures (where_given _ _ _ (delivers_used _ _ _ _ _ _ _ _ _ _ _ c.step-r.ensures))
