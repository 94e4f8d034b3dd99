-- `run::all` meets its contract. Assumes nothing.
use Rattle.std.proofs.Common.{ℕ, ◌≡◌, ◌≤◌, true, length}
use Rattle.std.specs.Fmt.{WritesInCalls}
use Rattle.definition.specs.Shape.{well_shaped}
use Rattle.definition.specs.Step.{seen, fresh_kept}
use Rattle.run.specs.Said.{records_in, records, events_text}
use Rattle.run.proofs.all.Given as goal

-- who writes the events that are left has written them all
abbrev pub invariant-loop-n : goal.invariant-loop-n
invariant-loop-n g l = record {
  can_next : (goal.iterator-loop-n g).can_next l.n-iterator;
  is_finite : (goal.iterator-loop-n g).is_finite l.n-iterator;
  within : length l.left ≤ length l.answers;
  size : l.n-iterator.iter.size ≡ 16;
  shaped : well_shaped l.profile l.session ≡ true;
  more : ℕ;
  few : length l.n-iterator.iter.rest.now ≤ more;
  writes : (w : g.row.S.Denot) →
      WritesInCalls g.S.Sink.takes l.out (events_text l.profile (seen l.profile l.session) l.n-iterator.count (records_in more l.n-iterator.iter.rest.now) l.left) w →
      WritesInCalls g.S.Sink.takes l.initial.out (events_text l.profile fresh_kept 0 (records l.events) l.answers) w;
}
