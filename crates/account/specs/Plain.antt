-- A plain profile and plain events, for cases that are computed. Definitions only.
use Rattle.std.specs.Prelude.{ℕ, Bool, true, false, List, [], ◌∷◌, Float, None, Option, Some}
use Rattle.float.specs.Leaf.{f0, f1}
use Rattle.protocol.specs.declared.Event.TheVariants as event
use Rattle.lookup.specs.View.{Part, View}
use Rattle.lookup.specs.declared.Destination.{Destination}
use Rattle.event.specs.declared.Input.{Input}
use Rattle.event.specs.declared.Input.TheVariants as input
use Rattle.event.specs.declared.Timed.{Timed}

-- every fader and encoder is on driver 3, target 7, 0 to 1, without a mute
abbrev pub dest : Bool → Destination
dest takeover = record { driver = 3; target = 7; label = 0; group = 0; mute = 65535; takeover = takeover; low = f0; high = f1 }

-- a driver of its own and `live`, 65535 for none, what is wired to each fader and encoder, and scenes
abbrev pub part_with : ℕ → ℕ → Option Destination → List ℕ → Part
part_with device live f scenes =
    record {
      name = 0;
      device = device;
      live = live;
      rec = 0;
      select = false;
      fader = λ n. f;
      encoder = λ n. f;
      scenes = scenes;
      transports = [];
    }

-- two banks alike, no positions
abbrev pub view_with : Part → View
view_with p =
    record {
      positions = false;
      remember = false;
      banks = 2;
      name = λ b. 0;
      named = λ n. None;
      globals = part_with 65535 65535 None [];
      here = λ b. p;
      button = λ d k. 65535;
    }

abbrev pub plain : Bool → View
plain takeover = view_with (part_with 65535 65535 (Some (dest takeover)) [])

-- banks with one scene, 5
abbrev pub paged : View
paged = view_with (part_with 3 65535 (Some (dest true)) (5 ∷ []))

-- live banks, on driver 3
abbrev pub alive : View
alive = view_with (part_with 3 0 None [])

-- an event at time 0
abbrev pub timed : Input → Timed
timed e = record { time = f0; what = e }

abbrev pub move : ℕ → Float → Input
move ch x = input.Midi (event.Fader ch x)

abbrev pub press : ℕ → Input
press note = input.Midi (event.Button (record { note = note; pressed = true }))

-- answers: done, nothing, and a level by its two highest bytes, the other six being 0
abbrev pub done_then : List ℕ → List ℕ
done_then l = 1 ∷ 0 ∷ 0 ∷ 0 ∷ 0 ∷ 0 ∷ 0 ∷ 0 ∷ 0 ∷ 0 ∷ 0 ∷ 0 ∷ 0 ∷ 0 ∷ 0 ∷ 0 ∷ l

abbrev pub nothing_then : List ℕ → List ℕ
nothing_then l = 3 ∷ 0 ∷ 0 ∷ 0 ∷ 0 ∷ 0 ∷ 0 ∷ 0 ∷ 0 ∷ 0 ∷ 0 ∷ 0 ∷ 0 ∷ 0 ∷ 0 ∷ 0 ∷ l

abbrev pub level_then : ℕ → ℕ → List ℕ → List ℕ
level_then low high l = 2 ∷ 0 ∷ 0 ∷ 0 ∷ 0 ∷ 0 ∷ 0 ∷ 0 ∷ 0 ∷ 0 ∷ 0 ∷ 0 ∷ 0 ∷ 0 ∷ low ∷ high ∷ l
