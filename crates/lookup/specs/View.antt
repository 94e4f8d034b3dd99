-- The profile as the definition of an event has it: one record of lookups. A handler takes the part of the current bank and the globals, so that what
-- another bank holds cannot matter to it. Definitions only.
use Rattle.std.specs.Prelude.{ℕ, Bool, List, Option}
use Rattle.profile.specs.Profile.{bank_count, in_globals}
use Rattle.lookup.specs.declared.Destination.{Destination}
use Rattle.lookup.specs.declared.Entry.{Entry}
use Rattle.lookup.specs.Lookup.{positions_of, remember_of, name_of, device_of, live_of, rec_of, select_of, fader_of, encoder_of, scenes_of, transports_of, button_of, bank_named}

-- what an event may know of one bank, or of the globals
pub record Part : Type 0 where
  -- 65535 for the globals
  pub name : ℕ
  -- the bank's own driver and `live`, 65535 where there is none
  pub device : ℕ
  pub live : ℕ
  -- 0 absent, 1 scene, 2 other
  pub rec : ℕ
  pub select : Bool
  -- by number
  pub fader : ℕ → Option Destination
  pub encoder : ℕ → Option Destination
  -- in file order
  pub scenes : List ℕ
  pub transports : List Entry

pub record View : Type 0 where
  pub positions : Bool
  pub remember : Bool
  -- how many banks there are
  pub banks : ℕ
  -- the name of a bank, and the first bank of a name
  pub name : ℕ → ℕ
  pub named : ℕ → Option ℕ
  pub globals : Part
  pub here : ℕ → Part
  -- the default command of a driver and a kind of button, 65535 if there is none
  pub button : ℕ → ℕ → ℕ

abbrev pub part_of : List ℕ → ℕ → Part
part_of s b =
    record {
      name = name_of s b;
      device = device_of s b;
      live = live_of s b;
      rec = rec_of s b;
      select = select_of s b;
      fader = fader_of s b;
      encoder = encoder_of s b;
      scenes = scenes_of s b;
      transports = transports_of s b;
    }

abbrev pub view_of : List ℕ → View
view_of s =
    record {
      positions = positions_of s;
      remember = remember_of s;
      banks = bank_count s;
      name = name_of s;
      named = bank_named s;
      globals = part_of s in_globals;
      here = part_of s;
      button = button_of s;
    }
