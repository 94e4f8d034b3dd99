use Rattle.std.proofs.lemmas.Bool.{not-false}
use Rattle.hands.proofs.Laws.{held, taken}
use Rattle.hands.proofs.faders.fader_at.Goals as goal

pub returns-then-is_held : goal.returns-then-is_held
returns-then-is_held c =
    let a = c.args in
    held a.dest a.last a.value _ _ _ _ (not-false a.dest.takeover c.if-not-dest.false) c.read.ensures c.is_held.ensures c.if-is_held.true

pub returns-else-is_held : goal.returns-else-is_held
returns-else-is_held c =
    let a = c.args in
    taken a.dest a.last a.value _ _ _ _ (not-false a.dest.takeover c.if-not-dest.false) c.read.ensures c.is_held.ensures c.if-is_held.false
