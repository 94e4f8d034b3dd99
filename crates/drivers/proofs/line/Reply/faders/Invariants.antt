use Rattle.std.proofs.Common.{◌≡◌, length}
use Rattle.drivers.specs.Answers.{items_of}
use Rattle.drivers.proofs.line.Reply.faders.Given as goal

abbrev pub invariant-loop-i : goal.invariant-loop-i
invariant-loop-i l = (l.faders ≡ items_of l.i l.self.part.now) × (length l.faders ≡ l.i)
