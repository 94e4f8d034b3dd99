-- Mackie Control, as the surface speaks it: what a message says, the notes and kinds of its buttons, and the messages that light its lamps and set its
-- fader positions. Written from MIDI 1.0 and document 01, with protocol.rs beside it. Definitions only.
use Rattle.std.specs.Prelude.{ℕ, ◌+◌, ◌-◌, ◌*◌, ◌/◌, ◌%◌, List, [], ◌∷◌, Bool, false, ◌&&◌, ℤ, pos, neg_ℤ, eqb, ltb, leb, length, get_or, Float, None, Option, Some}
use Rattle.base.specs.Choice.{pick}
use Rattle.base.specs.First.{first}
use Rattle.float.specs.Leaf.{value_of, position_of}
use Rattle.protocol.specs.declared.Event.{Event}
use Rattle.protocol.specs.declared.Event.TheVariants as event
use Rattle.protocol.specs.declared.Kind.{Kind}
use Rattle.protocol.specs.declared.Kind.TheVariants.{Rec, Solo, Mute, Select, BankLeft, BankRight, ArrowLeft, ArrowRight, ArrowUp, ArrowDown, Rewind, Forward, Stop, Play, Record, Unknown}
use Rattle.protocol.specs.declared.Out.{Out}
use Rattle.protocol.specs.declared.Out.TheVariants.{Led, Position}

-- ── buttons ──

-- "0 to 3 `CHANNEL_BASES`": the first notes of rec, solo, mute and select, eight notes each
abbrev pub channel_bases : List ℕ
channel_bases = 0x00 ∷ 0x08 ∷ 0x10 ∷ 0x18 ∷ []

-- "4 to 14 `NAMED`": bank left and right, arrow left, right, up and down, rewind, forward, stop, play, record
abbrev pub named : List ℕ
named = 0x2e ∷ 0x2f ∷ 0x62 ∷ 0x63 ∷ 0x60 ∷ 0x61 ∷ 0x5b ∷ 0x5c ∷ 0x5d ∷ 0x5e ∷ 0x5f ∷ []

-- the note is one of the eight of base k
abbrev pub is_of_base : ℕ → ℕ → Bool
is_of_base note k = leb (get_or channel_bases k 0) note && ltb note (get_or channel_bases k 0 + 8)

-- the note is that of named button k
abbrev pub is_named : ℕ → ℕ → Bool
is_named note k = eqb (get_or named k 0) note

-- the first base that has the note, and the first named button that has it
unfoldable pub base_of : ℕ → Option ℕ
base_of note = first 4 (is_of_base note)

unfoldable pub named_of : ℕ → Option ℕ
named_of note = first 11 (is_named note)

abbrev pub kind_by : Option ℕ → Option ℕ → ℕ
kind_by (Some k) other = k
kind_by None (Some k) = k + 4
kind_by None None = 15

-- the number that a profile has for a kind
unfoldable pub number_of : Kind → ℕ
number_of Rec = 0
number_of Solo = 1
number_of Mute = 2
number_of Select = 3
number_of BankLeft = 4
number_of BankRight = 5
number_of ArrowLeft = 6
number_of ArrowRight = 7
number_of ArrowUp = 8
number_of ArrowDown = 9
number_of Rewind = 10
number_of Forward = 11
number_of Stop = 12
number_of Play = 13
number_of Record = 14
number_of Unknown = 15

-- `Button::kind`: 0 to 3 a base, 4 to 14 a named button, 15 unknown
unfoldable pub kind_of : ℕ → ℕ
kind_of note = kind_by (base_of note) (named_of note)

abbrev pub channel_by : ℕ → Option ℕ → Option ℕ
channel_by note (Some k) = Some (note - get_or channel_bases k 0)
channel_by note None = None

-- `Button::channel`: which of its base's eight a channel's button is
unfoldable pub channel_of : ℕ → Option ℕ
channel_of note = channel_by note (base_of note)

-- `note_of`: the note of a kind that is one single button
unfoldable pub note_of : ℕ → Option ℕ
note_of kind = pick (ltb kind 4) None (pick (ltb kind 15) (Some (get_or named (kind - 4) 0)) None)

-- `transport_note`: the note that a transport button of the kind lights; a channel's kind lights its first
unfoldable pub transport_note : ℕ → Option ℕ
transport_note kind = pick (ltb kind 4) (Some (get_or channel_bases kind 0)) (note_of kind)

-- ── messages in ──

-- An encoder's detents: 0x01 to 0x3F to the right, 0x41 to 0x7F to the left. The byte is not masked: 0xFF gives -191.
abbrev pub delta_of : ℕ → ℤ
delta_of v = pick (ltb v 0x40) (pos v) (neg_ℤ (pos (v - 0x40)))

-- A fader's 14 bits, the low seven first. "only fader data bytes are masked"
abbrev pub raw_of : ℕ → ℕ → ℕ
raw_of lsb msb = msb % 128 * 128 + lsb % 128

-- What a message of n bytes says whose first three are status, a and b. The status' high four bits are its family, the low four its channel.
abbrev pub event_of : ℕ → ℕ → ℕ → ℕ → Event
event_of n status a b =
    pick (eqb (status / 16) 0xe && leb 3 n) (event.Fader (status % 16) (value_of (raw_of a b)))
    (pick (eqb (status / 16) 0xb && (leb 3 n && (leb 0x10 a && ltb a 0x18))) (event.Encoder (a - 0x10) (delta_of b))
    (pick (eqb (status / 16) 0x9 && leb 3 n) (event.Button (record { note = a; pressed = ltb 0 b }))
    (pick (eqb (status / 16) 0x8 && leb 2 n) (event.Button (record { note = a; pressed = false }))
    event.Other)))

-- `decode`: a byte that is not there counts as 0, and no case looks at one
unfoldable pub decode_of : List ℕ → Event
decode_of m = event_of (length m) (get_or m 0 0) (get_or m 1 0) (get_or m 2 0)

-- ── messages out ──

-- 127 for a lamp that is lit
abbrev pub velocity_of : Bool → ℕ
velocity_of on = pick on 127 0

-- `Out::bytes`
unfoldable pub bytes_of : Out → List ℕ
bytes_of (Led note on) = 0x90 ∷ note ∷ velocity_of on ∷ []
bytes_of (Position channel raw) = (0xe0 + channel % 16) ∷ raw % 128 ∷ (raw / 128 % 256) ∷ []

-- `fader_position`
abbrev pub sent_to : ℕ → Float → Out
sent_to channel value = Position channel (position_of value)

-- What a message that is sent says where it is read back: a lamp its button, lit for pressed, and a position its fader
abbrev pub heard_of : Out → Event
heard_of (Led note on) = event.Button (record { note = note; pressed = on })
heard_of (Position channel raw) = event.Fader (channel % 16) (value_of (raw % 16384))
