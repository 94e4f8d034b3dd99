-- How an event ends by its line's stop. Assumes nothing.
use Rattle.std.specs.Prelude.{ℕ, ◌*◌, ◌/◌, ◌≤◌, ◌<◌, ◌≡◌, ◌⊎◌, Bool, List, length, take, get_or}
use Rattle.std.proofs.Common.{inl, inr}
use Rattle.base.specs.Tail.{at_front}
use Rattle.drivers.specs.Shown.{shown}
use Rattle.drivers.proofs.BytesLaws.{calls_length, messages_length, bytes_calls, bytes_messages}
use Rattle.drivers.specs.declared.Call.{Call}
use Rattle.drivers.specs.declared.line.Io.{Io}
use Rattle.drivers.specs.declared.line.Stop.TheVariants.{Going, Waits, Declined, Overrun}
use Rattle.delivery.specs.Delivery.{Ends}
use Rattle.delivery.specs.declared.Outcome.TheVariants as outcome
use Rattle.delivery.specs.declared.refusal.Refusal.TheVariants.{Answer}

module _ (io : Io) (saved : Bool) (ms cs : List ℕ) where
  -- it is thrown away whole: the lent buffers are as they were
  pub ends_waiting : (c : Call) → io.stop ≡ Waits c → Ends io saved (outcome.Waiting c) ms cs ms cs
  unfolding shown
  ends_waiting c e = record { outcome = rw e; messages = rw e; calls = rw e }

  pub ends_stopped : (io.stop ≡ Declined) ⊎ (io.stop ≡ Overrun) → Ends io saved (outcome.Refused Answer) ms cs ms cs
  unfolding shown
  ends_stopped (inl e) = record { outcome = rw e; messages = rw e; calls = rw e }
  ends_stopped (inr e) = record { outcome = rw e; messages = rw e; calls = rw e }

  -- its messages and calls are delivered
  pub ends_done : (ms₁ cs₁ : List ℕ) → io.stop ≡ Going → 3 * io.sent ≤ length io.messages → 16 * io.asked ≤ length io.calls →
      ((j : ℕ) → get_or io.calls j 0 < 256) → ms₁ ≡ at_front (take (3 * io.sent) io.messages) ms → cs₁ ≡ at_front (take (16 * io.asked) io.calls) cs →
      Ends io saved (outcome.Done io.sent io.asked (io.read / 16) saved) ms cs ms₁ cs₁
  unfolding shown
  ends_done ms₁ cs₁ z h k low e f =
      record {
        outcome = rw (z, messages_length io.sent io.messages, calls_length io.asked io.calls);
        messages = rw (z, bytes_messages io.messages io.sent h) e;
        calls = rw (z, bytes_calls io.calls low io.asked k) f;
      }
