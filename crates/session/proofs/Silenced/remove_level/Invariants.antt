use Rattle.std.proofs.Common.{◌≡◌, ◌≤◌}
use Rattle.session.proofs.Laws.{Closing}
use Rattle.session.proofs.Silenced.remove_level.Given as goal

abbrev pub invariant-loop-i : goal.invariant-loop-i
invariant-loop-i l =
    (l.kept ≤ l.i) × (l.self.count ≡ l.initial.self.count)
    × Closing l.target l.initial.self.targets l.initial.self.levels l.self.targets l.self.levels l.kept l.i
