use Rattle.bridge.proofs.ButtonsLaws.{walks}
use Rattle.bridge.proofs.buttons.walk.Goals as goal

pub returns : goal.returns
returns c right to =
    let a = c.args in
    let b = c.step_bank-selected in
    walks a.here.now a.there.now a.panel.now b.new.panel _ _ right b.result c.requires.profile_value c.requires.bank_bound to b.ensures.value
