-- What a handler may know of the profile and of live lists: the settings, the globals, and the current bank. What another bank holds cannot matter to it.
-- The section "state" of bridge.rs. Definitions only.
use Rattle.std.specs.Prelude.{ℕ, zero, suc, ◌+◌, List, [], ◌∷◌, ◌++◌, Bool, true, false, eqb, get_or, None, Option, Some}
use Rattle.base.specs.Words.{absent}
use Rattle.base.specs.Choice.{pick}
use Rattle.lookup.specs.Lookup.{precede, most_common}
use Rattle.lookup.specs.View.{Part, View}
use Rattle.session.specs.Session.{strips_or, strip_at, found_strip}
use Rattle.session.specs.declared.Strip.{Strip}
use Rattle.lookup.specs.declared.Destination.{Destination}

-- the live lists by bank: none where the bank's driver was not asked
abbrev pub Lives : Type 0
Lives = List (Option (List Strip))

-- the current bank: its number, its part of the profile, and its live faders
pub record Here : Type 0 where
  pub bank : ℕ
  pub part : Part
  pub strips : List Strip

pub record Rig : Type 0 where
  pub positions : Bool
  pub globals : Part
  pub here : Here
  -- the default command of a driver and a kind of button
  pub button : ℕ → ℕ → ℕ

abbrev pub here_of : View → Lives → ℕ → Here
here_of v lives bank = record { bank = bank; part = v.here bank; strips = strips_or (get_or lives bank None) }

abbrev pub rig_of : View → Lives → ℕ → Rig
rig_of v lives bank = record { positions = v.positions; globals = v.globals; here = here_of v lives bank; button = v.button }

-- the same rig with another live list
abbrev pub with_strips : List Strip → Rig → Rig
with_strips l r =
    record {
      positions = r.positions;
      globals = r.globals;
      here = record { bank = r.here.bank; part = r.here.part; strips = l };
      button = r.button;
    }

-- `faders`: what the bank itself wires a fader to. A live bank's are the ones that its driver handed over last
unfoldable pub own_fader : Here → ℕ → Option Destination
own_fader h n = pick (eqb h.part.live absent) (h.part.fader n) (found_strip (strip_at n h.strips))

-- `destination`: "Globals precede the bank."
unfoldable pub destination : Rig → ℕ → Option Destination
destination r n = precede (r.globals.fader n) (own_fader r.here n)

-- what an encoder is wired to
unfoldable pub encoder_dest : Rig → ℕ → Option Destination
encoder_dest r n = precede (r.globals.encoder n) (r.here.part.encoder n)

-- ── the bank's driver ──

abbrev pub driver_in : Option Destination → List ℕ
driver_in (Some d) = d.driver ∷ []
driver_in None = []

-- the drivers of the bank's own faders 1 to n, by rising number
unfoldable pub own_drivers : Here → ℕ → List ℕ
own_drivers h zero = []
own_drivers h (suc n) = own_drivers h n ++ driver_in (own_fader h (n + 1))

-- `bank_driver`: the one most of its faders use, 65535 if it has none
unfoldable pub bank_driver : Here → ℕ
bank_driver h = most_common (own_drivers h 16)

-- `device`: the bank's own driver, else the one most of its faders use
unfoldable pub device : Here → ℕ
device h = pick (eqb h.part.device absent) (bank_driver h) h.part.device

abbrev pub is_of : ℕ → Option Destination → Bool
is_of driver (Some d) = eqb d.driver driver
is_of driver None = false

abbrev pub target_in : Option Destination → ℕ
target_in (Some d) = d.target
target_in None = absent

abbrev pub or_target : Option ℕ → Bool → ℕ → Option ℕ
or_target (Some t) b u = Some t
or_target None true u = Some u
or_target None false u = None

-- the target of the first of the bank's own faders 1 to n that is on the driver
unfoldable pub first_target : Here → ℕ → ℕ → Option ℕ
first_target h driver zero = None
first_target h driver (suc n) = or_target (first_target h driver n) (is_of driver (own_fader h (n + 1))) (target_in (own_fader h (n + 1)))
