use Rattle.std.proofs.Common.{◌≡◌, length, map}
use Rattle.drivers.specs.Talk.{name_of}
use Rattle.drivers.specs.Answers.{items_of}
use Rattle.drivers.proofs.line.Reply.names.Given as goal

abbrev pub invariant-loop-i : goal.invariant-loop-i
invariant-loop-i l = (l.names ≡ map name_of (items_of l.i l.self.part.now)) × (length l.names ≡ l.i)
