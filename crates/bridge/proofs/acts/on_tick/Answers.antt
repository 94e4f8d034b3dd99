use Rattle.bridge.proofs.ActsLaws.{ticks}
use Rattle.bridge.proofs.acts.on_tick.Goals as goal

pub returns-in-Some-clause-ticks : goal.returns-in-Some-clause-ticks
returns-in-Some-clause-ticks c =
    let a = c.args in
    let b = c.tick_flash in
    ticks a.here.now.here a.panel.now b.new.panel a.due _ _ _ _ _ c.refresh-strips.ensures.value (rw c.in-Some.is) b.ensures.value

pub returns-in-None-clause-ticks : goal.returns-in-None-clause-ticks
returns-in-None-clause-ticks c =
    let a = c.args in
    let b = c.tick_flash-in-None in
    ticks a.here.now.here a.panel.now b.new.panel a.due _ _ _ _ _ c.refresh-strips.ensures.value (rw c.in-None.is) b.ensures.value
