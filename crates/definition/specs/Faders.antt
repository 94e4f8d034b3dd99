-- Faders and encoders: a move is held until it meets the device's level, a turn adds to a sum, and the drain hands both over. Definitions only.
use Rattle.std.specs.Prelude.{ℕ, zero, suc, ◌+◌, ◌*◌, List, [], ◌∷◌, Bool, true, false, ◌&&◌, not, leb, length, ℤ, pos, negsuc, ◌+ℤ◌, Float, None, Option, Some}
use Rattle.std.specs.Int.Signed.{le_z}
use Rattle.base.specs.Choice.{pick}
use Rattle.base.specs.Keyed.{find}
use Rattle.float.specs.Leaf.{far_of, crossed_of, nudge}
use Rattle.protocol.specs.Protocol.{sent_to}
use Rattle.lookup.specs.declared.Destination.{Destination}
use Rattle.drivers.specs.Talk.{Talk, Got, Act, got, ◌>>=◌, send}
use Rattle.session.specs.Session.{is_marked, mark_at, last_move, moved_to, place_move, Turn, is_dest, turn}
use Rattle.session.specs.declared.Marks.{Marks}
use Rattle.session.specs.declared.Moves.{Moves}
use Rattle.session.specs.declared.Move.{Move}
use Rattle.definition.specs.Rig.{Rig, destination, encoder_dest}
use Rattle.definition.specs.Levels.{read, write}

-- marks, last moves, and what waits for the next drain: the line of moves and the encoders' sums
pub record Desk : Type 0 where
  pub marks : Marks
  pub moves : Moves
  pub line : List Move
  pub turns : List Turn

abbrev pub desk : Marks → Moves → List Move → List Turn → Desk
desk a b c d = record { marks = a; moves = b; line = c; turns = d }

-- ── a move ──

-- the last move there, if any, gives (p - c)(value - c) < 0
abbrev pub crossed_from : Option Float → Float → Float → Bool
crossed_from (Some p) c value = crossed_of p c value
crossed_from None c value = false

-- "the device reads c, |value - c| > 0.02, and the last move p there, if any, does not give (p - c)(value - c) < 0": gear that cannot answer holds no fader
abbrev pub is_held : Option Float → Option Float → Float → Bool
is_held (Some c) last value = far_of value c && not (crossed_from last c value)
is_held None last value = false

abbrev pub key_of : Rig → ℕ → ℕ
key_of r ch = r.here.bank * 16 + ch

-- a held move is remembered only
unfoldable pub hold_move : ℕ → Float → Desk → Desk
hold_move k value d = desk d.marks (moved_to k value d.moves) d.line d.turns

-- "An unheld move sets the mark and waits"
unfoldable pub take_move : ℕ → ℕ → Float → Desk → Desk
take_move k ch value d = desk (mark_at k d.marks) (moved_to k value d.moves) (place_move ch value d.line) d.turns

abbrev pub moved_if : Bool → ℕ → ℕ → Float → Desk → Desk
moved_if true k ch value d = hold_move k value d
moved_if false k ch value d = take_move k ch value d

-- "held exactly if takeover is on, no mark stands for (bank, channel), ..": only then is the device asked
abbrev pub fader_if : Bool → Destination → ℕ → ℕ → Float → Desk → Act Desk
fader_if true e k ch value d = read e >>= λ c. got (moved_if (is_held c (last_move k d.moves) value) k ch value d)
fader_if false e k ch value d = got (take_move k ch value d)

abbrev pub fader_to : Option Destination → ℕ → ℕ → Float → Desk → Act Desk
fader_to (Some e) k ch value d = fader_if (e.takeover && not (is_marked k d.marks)) e k ch value d
fader_to None k ch value d = got d

-- `fader`: a move without a destination changes nothing
unfoldable pub fader : Rig → ℕ → Float → Desk → Act Desk
fader r ch value d = fader_to (destination r (ch + 1)) (key_of r ch) ch value d

-- ── a turn ──

-- "an encoder sum would leave -1,000,000 to 1,000,000"
abbrev pub in_range : ℤ → Bool
in_range z = le_z (negsuc 999999) z && le_z z (pos 1000000)

-- why a turn is declined: 12, 13, or 0
abbrev pub declined_by : Option Turn → ℤ → List Turn → ℕ
declined_by (Some e) delta l = pick (in_range (e.sum +ℤ delta)) 0 12
declined_by None delta l = pick (leb 136 (length l)) 13 0

abbrev pub turn_to : Option Destination → ℤ → List Turn → List Turn
turn_to (Some e) delta l = turn e delta l
turn_to None delta l = l

-- `encoder`: "A turn adds to its destination's sum, if it has one."
unfoldable pub encoder : Rig → ℕ → ℤ → Desk → Desk
encoder r ch delta d = desk d.marks d.moves d.line (turn_to (encoder_dest r (ch + 1)) delta d.turns)

abbrev pub refusal_to : Option Destination → ℤ → List Turn → ℕ
refusal_to (Some e) delta l = declined_by (find (is_dest e) l) delta l
refusal_to None delta l = 0

-- the number that declines a turn, 12 or 13; 0 if none does
unfoldable pub turn_refusal : Rig → ℕ → ℤ → List Turn → ℕ
turn_refusal r ch delta l = refusal_to (encoder_dest r (ch + 1)) delta l

-- ── the drain ──

abbrev pub nudge_from : Option Float → Destination → ℤ → Talk → Talk
nudge_from (Some c) e sum t = (write e (nudge c sum) t).talk
nudge_from None e sum t = t

abbrev pub nudged : Destination → ℤ → Got (Option Float) → Talk
nudged e sum r = nudge_from r.value e sum r.talk

abbrev pub is_zero : ℤ → Bool
is_zero (pos zero) = true
is_zero (pos (suc n)) = false
is_zero (negsuc n) = false

abbrev pub nudge_if : Bool → Turn → Talk → Talk
nudge_if true e t = t
nudge_if false e t = nudged e.dest e.sum (read e.dest t)

-- `apply_nudge`: "one read and, if readable, one write of current + sum/64 held in 0 to 1"
unfoldable pub apply_nudge : Turn → Talk → Talk
apply_nudge e t = nudge_if (is_zero e.sum) e t

-- "non-zero encoder sums in first-turned order"
unfoldable pub nudges : List Turn → Talk → Talk
nudges [] t = t
nudges (e ∷ l) t = nudges l (apply_nudge e t)

-- the position that is sent with a write that was done aligns the lamp
abbrev pub align_if : Bool → ℕ → Float → Talk → Talk
align_if true ch value t = send (sent_to ch value) t
align_if false ch value t = t

abbrev pub aligned : Bool → Move → Got Bool → Talk
aligned positions m r = align_if (r.value && positions) m.channel m.level r.talk

-- "a move whose channel now has no destination is dropped, any other tried there"
abbrev pub write_move : Bool → Option Destination → Move → Talk → Talk
write_move positions (Some e) m t = aligned positions m (write e m.level t)
write_move positions None m t = t

-- "in line order"
unfoldable pub writes : Rig → List Move → Talk → Talk
writes r [] t = t
writes r (m ∷ l) t = writes r l (write_move r.positions (destination r (m.channel + 1)) m t)

-- `drain`: "the encoders', then for each tried move .. the write"
unfoldable pub drain : Rig → Desk → Talk → Talk
drain r d t = writes r d.line (nudges d.turns t)

-- "the line is empty", and each sum is handed over, "leaving 0"
unfoldable pub drained : Desk → Desk
drained d = desk d.marks d.moves [] []
