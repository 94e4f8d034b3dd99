-- A player that was met, as the definition has it. Definitions only.
use Rattle.definition.specs.Lamps.{Player as Known}
use Rattle.transport.specs.declared.players.Player.{Player}

abbrev pub known_as : Player → Known
known_as p = record { driver = p.driver; target = p.target; there = p.there }
