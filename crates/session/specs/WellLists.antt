-- What is true of the lists of a well-shaped session. Definitions only.
use Rattle.std.specs.Prelude.{ℕ, ◌≤◌, ◌≡◌, Bool, eqb, length, ℤ}
use Rattle.std.proofs.Math.Bool.{true}
use mathlib.Core.List.{List}
use Rattle.base.specs.Keyed.{all_of, no_twice, beside}
use Rattle.session.specs.Session.{same_channel, Turn, turn_at, SilencedLevel, good_strip, same_number, low_channel}
use Rattle.drivers.specs.declared.LiveFader.{LiveFader}
use Rattle.session.specs.declared.Move.{Move}
use Rattle.session.specs.declared.Strip.{Strip}

-- channels at most 15, none twice
pub record WellLine (l : List Move) : Type 0 where
  pub low : all_of low_channel l ≡ true
  pub once : no_twice same_channel l ≡ true

abbrev pub same_silenced : SilencedLevel → SilencedLevel → Bool
same_silenced a b = eqb a.target b.target

-- the sums that wait, each beside the record of its encoder
abbrev pub sums_in : List ℕ → List ℕ → List ℤ → List Turn
sums_in p ks ns = beside (turn_at p) ks ns

abbrev pub same_fader : LiveFader → LiveFader → Bool
same_fader a b = eqb a.number b.number

-- "8 live faders a bank", "live numbers 1 to 8, live drivers at most 15", "no key twice"
pub record WellStrips (l : List Strip) : Type 0 where
  pub few : length l ≤ 8
  pub good : all_of good_strip l ≡ true
  pub once : no_twice same_number l ≡ true
