use Rattle.drivers.specs.Shown.{reply_in}
use Rattle.drivers.proofs.Laws.{is_open_lem, opens}
use Rattle.drivers.specs.Talk.{open_for, next}
use Rattle.drivers.proofs.line.Io.open_for.Goals as goal

pub returns-then-is_open : goal.returns-then-is_open
unfolding open_for next reply_in
returns-then-is_open c = rw (is_open_lem _ _, ← c.is_open.ensures, c.if-is_open.true)

pub returns-then-opens : goal.returns-then-opens
unfolding open_for next reply_in
returns-then-opens c = rw (
  is_open_lem _ _,
  ← c.is_open.ensures,
  c.if-is_open.false,
  ← c.plain.ensures,
  ← c.ask.ensures.value,
  ← c.is_done-opens.ensures,
  c.if-opens.true,
  opens _ _,
  ← c.opening.ensures,
)

pub returns-else-opens : goal.returns-else-opens
unfolding open_for next reply_in
returns-else-opens c = rw (
  is_open_lem _ _,
  ← c.is_open.ensures,
  c.if-is_open.false,
  ← c.plain.ensures,
  ← c.ask.ensures.value,
  ← c.is_done-opens.ensures,
  c.if-opens.false,
)
