use Rattle.bridge.proofs.ActsLaws.{pushes_state, pushes_transport, flashes, ticks_panel}
use Rattle.bridge.proofs.acts.on_panel.Goals as goal

pub returns-in-Tick-clause-runs : goal.returns-in-Tick-clause-runs
returns-in-Tick-clause-runs c =
    let a = c.args in
    ticks_panel a.here.now.here a.panel.now a.due _ _ a.what c.on_tick.new.panel c.on_tick.result c.in-Tick.is c.on_tick.ensures.ticks

pub returns-in-PushState-clause-runs : goal.returns-in-PushState-clause-runs
returns-in-PushState-clause-runs c =
    let a = c.args in
    pushes_state a.here.now.here a.panel.now a.due _ _ a.what _ c.still-in-PushState.ensures c.in-PushState.is c.push_state.ensures

pub returns-in-PushTransport-clause-runs : goal.returns-in-PushTransport-clause-runs
returns-in-PushTransport-clause-runs c =
    let a = c.args in
    pushes_transport a.here.now.here a.panel.now a.due _ _ a.what _ c.still-in-PushTransport.ensures c.in-PushTransport.is c.push_transport.ensures

pub returns-in-FlashBank-clause-runs : goal.returns-in-FlashBank-clause-runs
returns-in-FlashBank-clause-runs c =
    let a = c.args in
    let b = c.flash_bank in
    flashes a.here.now.here a.panel.now a.due _ _ a.what _ c.still-in-FlashBank.ensures b.new.panel c.in-FlashBank.is b.ensures.value
