-- What the definition sees of what a handler is handed: the profile's bytes and the current bank with its live faders are a rig. Definitions only.
use Rattle.std.specs.Prelude.{ℕ, None, Option}
use Rattle.profile.specs.Profile.{in_globals}
use Rattle.lookup.specs.Lookup.{positions_of, button_of}
use Rattle.lookup.specs.View.{part_of}
use Rattle.session.specs.Session.{seen_strips, strips_or}
use Rattle.lookup.specs.declared.Destination.{Destination}
use Rattle.definition.specs.Rig.{Here, Rig, or_target, is_of, target_in}
use Rattle.rig.specs.declared.current.Current.{Current}

-- the current bank over its profile
abbrev pub here_in : Current → Here
here_in c = record { bank = c.bank; part = part_of c.profile.now c.bank; strips = strips_or (seen_strips c.strips.now) }

abbrev pub rig_in : Current → Rig
rig_in c = record { positions = positions_of c.profile.now; globals = part_of c.profile.now in_globals; here = here_in c; button = button_of c.profile.now }

-- the target of what a fader is wired to, if that is on the driver
abbrev pub target_if : ℕ → Option Destination → Option ℕ
target_if driver f = or_target None (is_of driver f) (target_in f)
