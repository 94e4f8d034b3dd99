use Rattle.bridge.proofs.ActsLaws.{presses}
use Rattle.bridge.proofs.acts.on_button.Goals as goal

pub returns-clause-runs : goal.returns-clause-runs
returns-clause-runs c =
    let a = c.args in
    let b = c.button-pressed in
    presses a.here.now.here a.there.now a.lamps.now b.new.lamps _ _ a.moves.now a.time _ _ a.b.note b.result b.ensures.presses
