-- Room for what a mute silences. Definitions only.
use Rattle.std.specs.Prelude.{ℕ, Bool, true, List, None, Option, Some}
use Rattle.base.specs.Choice.{pick}
use Rattle.lookup.specs.declared.Destination.{Destination}
use Rattle.session.specs.Session.{has_room}
use Rattle.definition.specs.Levels.{kept_by, has_mute}

-- a destination with a mute of its own silences no level; another's target needs a place among those silenced, which number 11 sees to
abbrev pub room_for : Destination → List ℕ → Bool
room_for d l = pick (has_mute d) true (has_room (kept_by d) l)

-- and a fader without a destination silences nothing
abbrev pub room_at : Option Destination → List ℕ → Bool
room_at (Some d) l = room_for d l
room_at None l = true
