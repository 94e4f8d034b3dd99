-- The faders of one group, as the definition sees them. Definitions only.
use Rattle.std.specs.Prelude.{ℕ, ◌-◌, ◌≤◌, ◌≡◌, Bool, true, List, get_or, None, Option}
use Rattle.base.specs.Choice.{pick}
use Rattle.lookup.specs.declared.Destination.{Destination}
use Rattle.session.specs.Session.{SilencedLevel}
use Rattle.session.specs.declared.Lamps.{Lamps}
use Rattle.definition.specs.Rig.{Rig}
use Rattle.definition.specs.Muting.{Soloed, peer}
use Rattle.mutes.specs.Held.{room_at}

-- the peers by number, from 1
abbrev pub seen_peers : List (Option Destination) → ℕ → Option Destination
seen_peers p n = get_or p (n - 1) None

-- the table has the faders 1 to 16 of the group
abbrev pub ArePeers : Rig → ℕ → List (Option Destination) → Type 0
ArePeers r group p = (n : ℕ) → 1 ≤ n → n ≤ 16 → seen_peers p n ≡ peer r group n

-- room for what silencing a peer silences; handing it back needs none
abbrev pub room_to : Option Destination → Bool → List ℕ → Bool
room_to f silence ts = pick silence (room_at f ts) true

abbrev pub soloed_as : Lamps → List SilencedLevel → Soloed
soloed_as l s = record { lamps = l; silenced = s }
