use Rattle.std.proofs.Common.{sym, ◌∙◌}
use Rattle.lookup.proofs.NamedLaws.{its_name}
use Rattle.rig.specs.Seen.{rig_in}
use Rattle.live.proofs.Laws.{asks, no_driver, not_live}
use Rattle.live.proofs.refresh_live.Goals as goal

pub ask-requires-clause-driver_value : goal.ask-requires-clause-driver_value
ask-requires-clause-driver_value c = its_name _ _ (sym c.in_ok-driver.was ∙ c.own_driver.ensures)

pub ask-requires-clause-which_value : goal.ask-requires-clause-which_value
ask-requires-clause-which_value c = its_name _ _ (sym c.in_ok-which.was ∙ c.live_of.ensures)

pub returns-clause-value : goal.returns-clause-value
returns-clause-value c =
    c.ask.ensures.value ∙ asks _ (rig_in c.args.here.now.here) _ _ _ _ _ (sym c.in_ok-driver.was ∙ c.own_driver.ensures) (sym c.in_ok-which.was ∙ c.live_of.ensures)

pub returns-in_err-driver-clause-value : goal.returns-in_err-driver-clause-value
returns-in_err-driver-clause-value c = rw c.from_residual.ensures (no_driver _ (rig_in c.args.here.now.here) _ _ _ (sym c.in_err-driver.was ∙ c.own_driver.ensures))

pub returns-in_err-which-clause-value : goal.returns-in_err-which-clause-value
returns-in_err-which-clause-value c = rw c.from_residual-in_err-which.ensures (not_live _ (rig_in c.args.here.now.here) _ _ _ (sym c.in_err-which.was ∙ c.live_of.ensures))
