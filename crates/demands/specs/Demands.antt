-- The first two demands, of what a host sees; the third is `HoldsOf` (specs/Shown). proofs/Demands has all three, of `bridge::step` and of the exported entry. x is
-- one call as a host sees it, s the session before it, and d what the definition says of the event that it offers. Definitions only.
use Rattle.std.specs.Prelude.{ℕ, ◌≤◌, ◌≡◌, List, ◌++◌, length, drop}
use Rattle.drivers.specs.Bytes.{joined, encode}
use Rattle.drivers.specs.Shown.{calls_in, messages_in}
use Rattle.session.specs.declared.Session.{Session}
use Rattle.definition.specs.Step.{Ended, done, refused, waiting, Stepped, seen}
use Rattle.delivery.specs.Delivery.{outcome_of}
use Rattle.demands.specs.Shown.{Exchange}

-- nothing that was lent is touched
pub record Untouched (s : Session) (x : Exchange) : Type 0 where
  pub session : x.session ≡ s
  pub messages : x.messages_after ≡ x.messages
  pub calls : x.calls_after ≡ x.calls

-- the buffers hold these messages and calls from the start, and behind them what stood there before
pub record Holding (ms cs : List ℕ) (x : Exchange) : Type 0 where
  pub messages : x.messages_after ≡ ms ++ drop (length ms) x.messages
  pub calls : x.calls_after ≡ cs ++ drop (length cs) x.calls

-- Demand 1. After an event that ran to its end: at most 102 messages and 337 calls, in the buffers from the start, old bytes behind. After a numbered refusal or a
-- wait for an answer: buffers and session untouched
abbrev pub Demand1 : Ended → Session → Exchange → Type 0
Demand1 (done ms cs used saved) s x = (length ms ≤ 102) × (length cs ≤ 337) × Holding (joined ms) (encode cs) x
Demand1 (refused why) s x = Untouched s x
Demand1 (waiting c) s x = Untouched s x

-- read from the buffers, as many as the outcome counts
abbrev pub Read : Ended → Exchange → Type 0
Read (done ms cs used saved) x = (messages_in (length ms) x.messages_after ≡ ms) × (calls_in (length cs) x.calls_after ≡ cs)
Read (refused why) x = Unit {0}
Read (waiting c) x = Unit {0}

-- Demand 2. The outcome, the messages and calls and the state after it are those of the definition, which stands for the Rust
pub record Demand2 (d : Stepped) (p : List ℕ) (x : Exchange) : Type 0 where
  pub outcome : x.outcome ≡ outcome_of d.ended
  pub read : Read d.ended x
  pub state : seen p x.session ≡ d.kept
