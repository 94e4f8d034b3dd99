use Rattle.std.proofs.Common.{◌≡◌}
use Rattle.session.specs.Session.{unmark_up_to}
use Rattle.session.proofs.Marks.unmark.Given as goal

abbrev pub invariant-loop-i : goal.invariant-loop-i
invariant-loop-i l = l.self.on ≡ unmark_up_to l.bank l.i l.initial.self.on
