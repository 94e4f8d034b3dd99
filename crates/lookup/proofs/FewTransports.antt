-- How many transport buttons a part has. Assumes nothing.
use Rattle.std.specs.Prelude.{ℕ, ◌≤◌, ◌<◌, ◌≡◌, List}
use Rattle.std.proofs.Common.{arith}
use Rattle.base.specs.Range.{count}
use Rattle.profile.proofs.RangeMore.{count_mono}
use Rattle.profile.specs.Profile.{records, count_of, verdict}
use Rattle.profile.proofs.Accepted.{few_transports}
use Rattle.lookup.specs.Lookup.{of_part}

-- an accepted profile has at most 16 of one part
pub own_few : (s : List ℕ) (part k : ℕ) → verdict s ≡ 0 → part < 256 → k ≤ records s → count k (of_part s 5 part) ≤ 16
unfolding count_of
own_few s part k a h l = omega (arith, few_transports s a part h, count_mono (of_part s 5 part) k (records s) l)
