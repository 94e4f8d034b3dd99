use mathlib.Core.Path.{sym, ap, ◌∙◌}
use lib.Dec.{ltb}
use Rattle.profile.specs.Profile.{bank_count}
use Rattle.bridge.proofs.ButtonsLaws.{selects_bank}
use Rattle.bridge.proofs.buttons.select.Goals as goal

pub returns : goal.returns
returns c =
    let a = c.args in
    selects_bank a.here.now a.there.now a.panel.now c.select_bank.new.panel _ _ a.channel (sym c.select_is_bank.ensures ∙ c.if-not-select_is_bank.false)
    (ap (λ n. ltb n (bank_count a.here.now.profile.now)) (sym c.from.ensures) ∙ sym c.has_bank.ensures ∙ c.if-not-has_bank.false) c.requires.bank_value
    c.select_bank.ensures.value
