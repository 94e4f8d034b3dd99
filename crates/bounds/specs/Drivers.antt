-- Which drivers an event can use: those of the profile, of the live lists and of the encoders' sums. Definitions only.
use Rattle.std.specs.Prelude.{ℕ, ◌≡◌, false, List, [], ◌∷◌, eqb, get_or, None, Option, Some}
use Rattle.base.specs.Words.{absent}
use Rattle.lookup.specs.View.{View}
use Rattle.lookup.specs.declared.Entry.{Entry}
use Rattle.session.specs.Session.{Turn, strips_or}
use Rattle.session.specs.declared.Strip.{Strip}
use Rattle.definition.specs.Step.{Kept}
use Rattle.lookup.specs.declared.Destination.{Destination}

-- a destination's driver may be used
abbrev pub MayTo : (ℕ → Type 0) → Option Destination → Type 0
MayTo D (Some d) = D d.driver
MayTo D None = Unit {0}

-- and so may those of a list of commands
pub data MayAll (D : ℕ → Type 0) : List Entry → Type 0 where
  no_entry_lem : MayAll D []
  one_entry : {e : Entry} {l : List Entry} → D e.command.driver → MayAll D l → MayAll D (e ∷ l)

module _ {A : Type 0} where
  -- P holds of each of a list
  pub data Each (P : A → Type 0) : List A → Type 0 where
    no_more : Each P []
    one_more : {x : A} {l : List A} → P x → Each P l → Each P (x ∷ l)

abbrev pub MayTurn : (ℕ → Type 0) → Turn → Type 0
MayTurn D e = D e.dest.driver

abbrev pub MayStrip : (ℕ → Type 0) → Strip → Type 0
MayStrip D s = D s.driver

-- the drivers that the profile names may be used
pub record MayView (D : ℕ → Type 0) (v : View) : Type 0 where
  pub first : D 0
  pub globals : (n : ℕ) → MayTo D (v.globals.fader n)
  pub faders : (b n : ℕ) → MayTo D ((v.here b).fader n)
  pub devices : (b : ℕ) → eqb (v.here b).device absent ≡ false → D (v.here b).device
  pub commands : MayAll D v.globals.transports
  pub own : (b : ℕ) → MayAll D (v.here b).transports

-- and those that the session does
pub record MayKept (D : ℕ → Type 0) (k : Kept) : Type 0 where
  pub lives : (b : ℕ) → Each (MayStrip D) (strips_or (get_or k.site.lives b None))
  pub turns : Each (MayTurn D) k.desk.turns
