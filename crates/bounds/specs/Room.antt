-- What a session and a profile hold at most, as document 01 bounds them, and what an event then finds room for. Definitions only.
use Rattle.std.specs.Prelude.{ℕ, ◌+◌, ◌≤◌, ◌<◌, ◌≡◌, Bool, true, false, List, [], ◌∷◌, length}
use Rattle.protocol.specs.declared.Event.{Event}
use Rattle.protocol.specs.declared.Event.TheVariants as event
use Rattle.lookup.specs.View.{View}
use Rattle.drivers.specs.Talk.{Talk}
use Rattle.drivers.specs.declared.line.Stop.TheVariants.{Overrun}
use Rattle.event.specs.declared.Input.{Input}
use Rattle.event.specs.declared.Input.TheVariants as input
use Rattle.definition.specs.Faders.{in_range}
use Rattle.definition.specs.Step.{Kept, Ended, done, refused, waiting}
use Rattle.bounds.specs.Drivers.{MayView, MayKept}

-- a driver is 0 to 15
abbrev pub IsDriver : ℕ → Type 0
IsDriver d = d < 16

-- how many drivers are not open
abbrev pub shut_one : Bool → ℕ
shut_one true = 0
shut_one false = 1

unfoldable pub shut : List Bool → ℕ
shut [] = 0
shut (b ∷ l) = shut_one b + shut l

-- a profile's drivers are drivers, and it has at most "16 transports in one bank (or globals)"
pub record Sound (v : View) : Type 0 where
  pub drivers : MayView IsDriver v
  pub globals : length v.globals.transports ≤ 16
  pub own : (b : ℕ) → length (v.here b).transports ≤ 16

-- a session within its capacities: 136 sums, 16 waiting moves, 16 drivers, and of a flash that is on at least the first phase is sent
pub record Within (k : Kept) : Type 0 where
  pub drivers : MayKept IsDriver k
  pub turns : length k.desk.turns ≤ 136
  pub line : length k.desk.line ≤ 16
  pub opened : length k.opened ≡ 16
  pub flash : k.lamps.flash.on ≡ true → 1 ≤ k.lamps.flash.sent

-- a line with room for m messages and c calls more, where a driver that is not open may cost a call of its own
pub record Room (m c : ℕ) (t : Talk) : Type 0 where
  pub messages : length t.messages + m ≤ 102
  pub calls : length t.calls + shut t.opened + c ≤ 337
  pub opened : length t.opened ≡ 16
  pub never : t.stop ≡ Overrun → ⊥

-- at most 102 messages and 337 calls
abbrev pub FewOf : Ended → Type 0
FewOf (done ms cs used saved) = (length ms ≤ 102) × (length cs ≤ 337)
FewOf (refused why) = Unit {0}
FewOf (waiting c) = Unit {0}

-- a fader's channel is 0 to 15, an encoder's 0 to 7, and a turn is by no more than a sum may be: all that the bytes of a message can say
abbrev pub LowEvent : Event → Type 0
LowEvent (event.Fader ch value) = ch < 16
LowEvent (event.Encoder ch delta) = (ch < 8) × (in_range delta ≡ true)
LowEvent (event.Button b) = Unit {0}
LowEvent event.Other = Unit {0}

abbrev pub LowInput : Input → Type 0
LowInput (input.Midi e) = LowEvent e
LowInput input.Tick = Unit {0}
LowInput input.PushState = Unit {0}
LowInput input.PushTransport = Unit {0}
LowInput input.FlashBank = Unit {0}
