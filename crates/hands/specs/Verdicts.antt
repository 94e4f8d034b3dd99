-- A move, of which a handler is told the last move of its channel, and says what becomes of it: the desk itself is in no handler's hands.
-- Definitions only.
use Rattle.std.specs.Prelude.{ℕ, ◌≡◌, false, Float, None, Option, Some}
use Rattle.drivers.specs.Talk.{Talk, got}
use Rattle.session.specs.Session.{is_marked, last_move}
use Rattle.definition.specs.Faders.{Desk, hold_move, take_move, fader_to}
use Rattle.hands.specs.declared.Verdict.{Verdict}
use Rattle.hands.specs.declared.Verdict.TheVariants.{Ignored, Held, Taken}
use Rattle.lookup.specs.declared.Destination.{Destination}

-- what a move to (bank, channel) k leaves on the desk
abbrev pub left_by : Verdict → ℕ → ℕ → Float → Desk → Desk
left_by Ignored k ch value d = d
left_by Held k ch value d = hold_move k value d
left_by Taken k ch value d = take_move k ch value d

-- where the mark stands no device is asked: a move with a destination is taken
abbrev pub controlled : Option Destination → Verdict
controlled (Some e) = Taken
controlled None = Ignored

-- the verdict v and the line u after a move to f, of the line t before it: on every desk that has no mark and this last move there
abbrev pub Fades : Option Destination → Option Float → Float → Talk → Verdict → Talk → Type 0
Fades f last value t v u =
    (k ch : ℕ) (d : Desk) → is_marked k d.marks ≡ false → last_move k d.moves ≡ last → got (left_by v k ch value d) u ≡ fader_to f k ch value d t
