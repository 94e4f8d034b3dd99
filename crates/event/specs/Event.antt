-- "Event, 16 bytes: byte 0 kind (1 MIDI, 2 tick, 3 push_state, 4 push_transport, 5 flash_bank), 1 length 0 to 3, message from 2, time at 8."
-- Definitions only.
use Rattle.std.specs.Prelude.{ℕ, ◌≡◌, List, Bool, false, ◌&&◌, ltb, leb, eqb, length, get_or, take, drop, None, Option, Some}
use Rattle.std.specs.Float.{binary64}
use Rattle.std.specs.Float.Ieee.{of_bits}
use Rattle.base.specs.Choice.{pick}
use Rattle.base.specs.Words.{le64}
use Rattle.protocol.specs.Protocol.{decode_of}
use Rattle.event.specs.declared.Input.{Input}
use Rattle.event.specs.declared.Input.TheVariants as input
use Rattle.event.specs.declared.Timed.{Timed}

-- 10: "event kind or length unknown, record incomplete"; "the length is checked for every kind"
unfoldable pub event_ok : List ℕ → Bool
event_ok s = pick (ltb (length s) 16) false (leb 1 (get_or s 0 0) && (leb (get_or s 0 0) 5 && leb (get_or s 1 0) 3))

-- "Bytes between the message's end and 8 are unread"
abbrev pub message_of : List ℕ → List ℕ
message_of s = take (get_or s 1 0) (drop 2 s)

unfoldable pub input_of : List ℕ → Input
input_of s =
    pick (eqb (get_or s 0 0) 1) (input.Midi (decode_of (message_of s)))
    (pick (eqb (get_or s 0 0) 2) input.Tick
    (pick (eqb (get_or s 0 0) 3) input.PushState
    (pick (eqb (get_or s 0 0) 4) input.PushTransport input.FlashBank)))

abbrev pub timed_of : List ℕ → Timed
timed_of s = record { time = of_bits binary64 (le64 s 8); what = input_of s }

unfoldable pub read_of : List ℕ → Option Timed
read_of s = pick (event_ok s) (Some (timed_of s)) None

-- ── each event's number, and the values that its record holds ──

-- "1 MIDI, 2 tick, 3 push_state, 4 push_transport, 5 flash_bank"
abbrev pub number_of : Input → ℕ
number_of (input.Midi e) = 1
number_of input.Tick = 2
number_of input.PushState = 3
number_of input.PushTransport = 4
number_of input.FlashBank = 5

-- a message holds what it says, and no other event holds a value
abbrev pub Carries : List ℕ → Input → Type 0
Carries s (input.Midi e) = e ≡ decode_of (message_of s)
Carries s input.Tick = Unit {0}
Carries s input.PushState = Unit {0}
Carries s input.PushTransport = Unit {0}
Carries s input.FlashBank = Unit {0}
