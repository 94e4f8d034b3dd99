-- `printing::Hex` is put as the definition's text. Assumes nothing.
use Rattle.std.proofs.Common.{take}
use Rattle.std.specs.Fmt.{WritesInCalls}
use Rattle.printing.specs.Text.{hex}
use Rattle.printing.proofs.HexText.put.Given as goal

abbrev pub invariant-loop-b : goal.invariant-loop-b
invariant-loop-b g l = WritesInCalls g.S.Sink.takes l.initial.out (hex (take l.b-index l.self.0.now)) l.out
