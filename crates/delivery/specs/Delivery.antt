-- How an event ends, and what it leaves in the lent buffers: demand 1. Definitions only.
use Rattle.std.specs.Prelude.{ℕ, ◌/◌, ◌≤◌, ◌≡◌, Bool, true, false, List, length}
use Rattle.base.specs.Tail.{at_front}
use Rattle.drivers.specs.Talk.{is_going, Talk}
use Rattle.drivers.specs.declared.line.Stop.{Stop}
use Rattle.drivers.specs.declared.line.Stop.TheVariants.{Going, Waits, Declined, Overrun}
use Rattle.drivers.specs.Bytes.{joined, encode}
use Rattle.drivers.specs.Shown.{shown}
use Rattle.drivers.specs.declared.Call.{Call}
use Rattle.drivers.specs.declared.line.Io.{Io}
use Rattle.definition.specs.Step.{Ended, done, refused, waiting}
use Rattle.delivery.specs.Refusals.{number_of}
use Rattle.delivery.specs.declared.Outcome.{Outcome}
use Rattle.delivery.specs.declared.Outcome.TheVariants as outcome

-- document 01's outcome: the counts, the number of the refusal, or the call that waits
pub data Told : Type 0 where
  Done : ℕ → ℕ → ℕ → Bool → Told
  Refused : ℕ → Told
  Waiting : Call → Told

-- what an outcome tells
abbrev pub told : Outcome → Told
told (outcome.Done ms cs used saved) = Done ms cs used saved
told (outcome.Refused why) = Refused (number_of why)
told (outcome.Waiting c) = Waiting c

abbrev pub outcome_of : Ended → Told
outcome_of (done ms cs used saved) = Done (length ms) (length cs) used saved
outcome_of (refused why) = Refused why
outcome_of (waiting c) = Waiting c

abbrev pub told_done : Told → Bool
told_done (Done ms cs used saved) = true
told_done (Refused why) = false
told_done (Waiting c) = false

abbrev pub is_done : Ended → Bool
is_done (done ms cs used saved) = true
is_done (refused why) = false
is_done (waiting c) = false

-- the lent buffers after an event that ended so, of what they held: its own from the start, old bytes behind; three bytes for a message, sixteen for a call
abbrev pub messages_after : Ended → List ℕ → List ℕ
messages_after (done ms cs used saved) old = at_front (joined ms) old
messages_after (refused why) old = old
messages_after (waiting c) old = old

abbrev pub calls_after : Ended → List ℕ → List ℕ
calls_after (done ms cs used saved) old = at_front (encode cs) old
calls_after (refused why) old = old
calls_after (waiting c) old = old

-- how an event ends by the line's stop
abbrev pub end_if : Stop → Talk → Bool → Ended
end_if Going t saved = done t.messages t.calls (t.used / 16) saved
end_if (Waits c) t saved = waiting c
end_if Declined t saved = refused 14
end_if Overrun t saved = refused 14

abbrev pub end_of : Talk → Bool → Ended
end_of t saved = end_if t.stop t saved

-- a line that goes on has room: at most 102 messages and 337 calls
abbrev pub HasRoom : Io → Type 0
HasRoom io = is_going io.stop ≡ true → (io.sent ≤ 102) × (io.asked ≤ 337)

-- the end of an event whose line is io: ms₀ and cs₀ are the lent buffers before, ms₁ and cs₁ after
pub record Ends (io : Io) (saved : Bool) (r : Outcome) (ms₀ cs₀ ms₁ cs₁ : List ℕ) : Type 0 where
  pub outcome : told r ≡ outcome_of (end_of (shown io) saved)
  pub messages : ms₁ ≡ messages_after (end_of (shown io) saved) ms₀
  pub calls : cs₁ ≡ calls_after (end_of (shown io) saved) cs₀
