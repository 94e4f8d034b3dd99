-- What stays of a panel that is lent. Definitions only.
use Rattle.std.specs.Prelude.{◌≡◌}
use Rattle.surface.specs.declared.panel.Panel.{Panel}

-- p became q: of a panel nothing changes but the lamps' state
abbrev pub LampsAlone : Panel → Panel → Type 0
LampsAlone p q = (q.silenced_targets.now ≡ p.silenced_targets.now) × (q.moves.now ≡ p.moves.now) × (q.time ≡ p.time)
