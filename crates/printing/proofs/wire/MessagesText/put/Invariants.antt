-- `printing::wire::Messages` is put as the definition's text. Assumes nothing.
use Rattle.std.proofs.Common.{ℕ, ◌*◌, ◌≤◌, ◌≡◌, length, drop}
use Rattle.std.specs.Fmt.{WritesInCalls}
use Rattle.drivers.specs.Shown.{messages_in}
use Rattle.printing.specs.Text.{message_lines}
use Rattle.printing.proofs.wire.MessagesText.put.Given as goal

-- n of them were put, and the others are left
abbrev pub invariant-loop-message : goal.invariant-loop-message
invariant-loop-message g l =
    (n : ℕ) × (l.message-iterator.size ≡ 3) × (3 * n ≤ length l.self.0.now) × (l.message-iterator.rest.now ≡ drop (3 * n) l.self.0.now)
    × WritesInCalls g.S.Sink.takes l.initial.out (message_lines (messages_in n l.self.0.now)) l.out
