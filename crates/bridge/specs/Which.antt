-- Which event it is. Definitions only.
use Rattle.std.specs.Prelude.{ℕ, Bool, true, false, not, List, [], None, Option, Some}
use Rattle.protocol.specs.declared.Button.{Button}
use Rattle.protocol.specs.declared.Event.TheVariants as event
use Rattle.session.specs.declared.Lamps.{Lamps}
use Rattle.event.specs.declared.Input.{Input}
use Rattle.event.specs.declared.Input.TheVariants as input
use Rattle.rig.specs.declared.current.Current.{Current}
use Rattle.bridge.specs.Presses.{bank_after, added_of}
use Rattle.bridge.specs.declared.which.Hand.{Hand}
use Rattle.bridge.specs.declared.which.Hand.TheVariants as hand

-- what a hand moved, if it was a fader or an encoder
abbrev pub hand_of : Input → Option Hand
hand_of (input.Midi (event.Fader ch value)) = Some (hand.Fader ch value)
hand_of (input.Midi (event.Encoder ch delta)) = Some (hand.Encoder ch delta)
hand_of (input.Midi (event.Button b)) = None
hand_of (input.Midi event.Other) = None
hand_of input.Tick = None
hand_of input.PushState = None
hand_of input.PushTransport = None
hand_of input.FlashBank = None

abbrev pub press_if : Bool → Button → Option Button
press_if true b = Some b
press_if false b = None

-- the button that the event presses, if it does
abbrev pub press_in : Input → Option Button
press_in (input.Midi (event.Fader ch value)) = None
press_in (input.Midi (event.Encoder ch delta)) = None
press_in (input.Midi (event.Button b)) = press_if b.pressed b
press_in (input.Midi event.Other) = None
press_in input.Tick = None
press_in input.PushState = None
press_in input.PushTransport = None
press_in input.FlashBank = None

abbrev pub is_tick : Input → Bool
is_tick (input.Midi e) = false
is_tick input.Tick = true
is_tick input.PushState = false
is_tick input.PushTransport = false
is_tick input.FlashBank = false

-- a MIDI message that does nothing
abbrev pub is_nothing : Input → Bool
is_nothing (input.Midi (event.Fader ch value)) = false
is_nothing (input.Midi (event.Encoder ch delta)) = false
is_nothing (input.Midi (event.Button b)) = not b.pressed
is_nothing (input.Midi event.Other) = true
is_nothing input.Tick = false
is_nothing input.PushState = false
is_nothing input.PushTransport = false
is_nothing input.FlashBank = false

-- an event that may ask or send, other than a hand's
abbrev pub runs : Input → Bool
runs (input.Midi (event.Fader ch value)) = false
runs (input.Midi (event.Encoder ch delta)) = false
runs (input.Midi (event.Button b)) = b.pressed
runs (input.Midi event.Other) = false
runs input.Tick = true
runs input.PushState = true
runs input.PushTransport = true
runs input.FlashBank = true

-- the bank that is current after a press, and the targets that it adds to those silenced
abbrev pub bank_by : List ℕ → ℕ → Option Button → ℕ
bank_by p bank (Some b) = bank_after p bank b.note
bank_by p bank None = bank

abbrev pub adds_by : Current → Lamps → Option Button → List ℕ → List ℕ
adds_by here l (Some b) ts = added_of here l b.note ts
adds_by here l None ts = []
