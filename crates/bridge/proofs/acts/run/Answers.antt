use mathlib.Core.Path.{sym, ◌∙◌}
use Rattle.bridge.proofs.ActsLaws.{runs_press}
use Rattle.bridge.proofs.acts.run.Goals as goal

pub returns-in-Some-clause-runs_any : goal.returns-in-Some-clause-runs_any
returns-in-Some-clause-runs_any c =
    let a = c.args in
    let b = c.on_button in
    runs_press a.here.now.here a.there.now a.lamps.now b.new.lamps _ _ a.moves.now a.e.time _ _ a.due b.result _ a.e.what
    (sym c.press_of.ensures ∙ c.in-Some.is) b.ensures.runs
