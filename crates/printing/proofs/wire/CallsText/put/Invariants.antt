-- `printing::wire::Calls` is put as the definition's text. Assumes nothing.
use Rattle.std.proofs.Common.{ℕ, ◌*◌, ◌≤◌, ◌≡◌, length, drop}
use Rattle.std.specs.Fmt.{WritesInCalls}
use Rattle.drivers.specs.Shown.{calls_in}
use Rattle.printing.specs.Text.{call_lines}
use Rattle.printing.proofs.wire.CallsText.put.Given as goal

-- n of them were put, and the others are left
abbrev pub invariant-loop-bytes : goal.invariant-loop-bytes
invariant-loop-bytes g l =
    (n : ℕ) × (l.bytes-iterator.size ≡ 16) × (16 * n ≤ length l.self.0.now) × (l.bytes-iterator.rest.now ≡ drop (16 * n) l.self.0.now)
    × WritesInCalls g.S.Sink.takes l.initial.out (call_lines (calls_in n l.self.0.now)) l.out
