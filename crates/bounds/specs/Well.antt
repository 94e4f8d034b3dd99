-- "Well shaped" (document 01, number 8), said of a session as it is seen over the profile p. Definitions only.
use Rattle.std.specs.Prelude.{ℕ, ◌≤◌, ◌<◌, ◌≡◌, true, List, eqb, length, get_or, None}
use Rattle.base.specs.Keyed.{all_of, no_twice}
use Rattle.profile.specs.Profile.{records, is_kind, bank_count}
use Rattle.lookup.specs.Lookup.{dest_at}
use Rattle.lookup.specs.declared.Destination.{Destination}
use Rattle.session.specs.Session.{Turn, same_turn, strips_or, targets_of}
use Rattle.session.specs.WellLists.{WellLine, WellStrips}
use Rattle.definition.specs.Shape.{good_turn, shaped_flash}
use Rattle.definition.specs.Step.{Kept}
use Rattle.bounds.specs.Drivers.{Each}

-- record k of the profile is an encoder's, and wires it to this destination
pub record Wires (p : List ℕ) (d : Destination) (k : ℕ) : Type 0 where
  pub in_file : k < records p
  pub encoder : is_kind p 3 k ≡ true
  pub to : dest_at p k ≡ d

-- some record does: "waiting encoder destinations taken from the profile"
pub record Wired (p : List ℕ) (d : Destination) : Type 0 where
  pub at : ℕ
  pub wires : Wires p d at

abbrev pub WiredTurn : List ℕ → Turn → Type 0
WiredTurn p e = Wired p e.dest

-- the list of document 01, item by item, and that there are 16 drivers
pub record Well (p : List ℕ) (k : Kept) : Type 0 where
  pub bank : k.site.bank < bank_count p
  pub line : WellLine k.desk.line
  pub lives : (b : ℕ) → WellStrips (strips_or (get_or k.site.lives b None))
  pub few : length k.desk.turns ≤ 136
  pub wired : Each (WiredTurn p) k.desk.turns
  pub sums : all_of good_turn k.desk.turns ≡ true
  pub destinations : no_twice same_turn k.desk.turns ≡ true
  pub held : length k.silenced ≤ 256
  pub targets : no_twice eqb (targets_of k.silenced) ≡ true
  pub flash : shaped_flash k.lamps.flash ≡ true
  pub opened : length k.opened ≡ 16
