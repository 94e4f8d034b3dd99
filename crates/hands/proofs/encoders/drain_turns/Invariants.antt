use Rattle.std.proofs.Common.{◌≡◌, true}
use Rattle.std.specs.Iterator.Adapters.{zip_first, zip_second}
use Rattle.std.specs.Slice.Iter.{iter_rest}
use Rattle.base.specs.Keyed.{all_of, beside}
use Rattle.drivers.specs.Shown.{shown}
use Rattle.session.specs.Session.{turn_at, seen_turns, is_encoder}
use Rattle.definition.specs.Faders.{nudges}
use Rattle.hands.proofs.encoders.drain_turns.Given as goal

-- those that are left drain what is left
abbrev pub invariant-loop-k : goal.invariant-loop-k
invariant-loop-k l =
    let ks = iter_rest (zip_first l.k-iterator) in
    let ns = iter_rest (zip_second l.k-iterator) in
    (all_of (is_encoder l.profile) ks ≡ true)
    × (nudges (beside (turn_at l.profile) ks ns) (shown l.io) ≡ nudges (seen_turns l.profile l.turns) (shown l.initial.io))
