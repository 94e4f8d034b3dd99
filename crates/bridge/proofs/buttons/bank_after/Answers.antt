use Rattle.bridge.proofs.PressLaws.{bank_stays}
use Rattle.bridge.proofs.buttons.bank_after.Goals as goal

pub returns-in_default-kind : goal.returns-in_default-kind
returns-in_default-kind c =
    let d = c.in_default-kind in
    bank_stays _ _ c.kind.ensures _ c.in-Some.is _ _ d.not-Select d.not-BankLeft d.not-BankRight d.not-ArrowUp d.not-ArrowDown
