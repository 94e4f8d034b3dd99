-- How an event may end: a refused or waiting one leaves the session as it was, and the answers it used are among those offered. Definitions only.
use Rattle.std.specs.Prelude.{ℕ, ◌*◌, ◌≤◌, ◌≡◌}
use Rattle.definition.specs.Step.{Kept, Ended, done, refused, waiting}

-- what was done may change the session, what was refused or waits may not
abbrev pub KeptBy : Kept → Ended → Kept → Type 0
KeptBy k (done ms cs used saved) x = Unit {0}
KeptBy k (refused why) x = x ≡ k
KeptBy k (waiting c) x = x ≡ k

-- the answers that an event used are among the bytes offered
abbrev pub UsedOf : ℕ → Ended → Type 0
UsedOf all (done ms cs used saved) = 16 * used ≤ all
UsedOf all (refused why) = Unit {0}
UsedOf all (waiting c) = Unit {0}
