use Rattle.bridge.proofs.PressLaws.{adds_none}
use Rattle.bridge.proofs.buttons.added_by.Goals as goal

pub returns-in_default-kind : goal.returns-in_default-kind
returns-in_default-kind c = adds_none _ _ c.kind.ensures _ c.in-Some.is _ _ _ c.in_default-kind.not-Solo c.in_default-kind.not-Mute
