-- The scenes of the current device, from what the calls promise. Assumes nothing.
use Rattle.std.specs.Prelude.{ℕ, ◌≤◌, ◌<◌, ◌≡◌, refl, List, length, get_or, eqb, None, Option, Some, IfSome}
use Rattle.std.specs.List.{position as place_of_first}
use Rattle.std.specs.Option.{unwrap_or}
use Rattle.std.proofs.Common.{arith, Fits, w32}
use Rattle.base.proofs.FirstLaws.{first-at}
use Rattle.base.proofs.StdLaws.{position-first}
use Rattle.profile.specs.Profile.{count_of, verdict}
use Rattle.profile.proofs.Accepted.{few_scenes}
use Rattle.lookup.proofs.GatherLaws.{gather-length}
use Rattle.lookup.proofs.Known.{scenes-whole}
use Rattle.lookup.specs.Lookup.{scenes_of, position}

-- ── names ──

-- std's first place and the definitions' are one
pub place_among : (name : ℕ) (l : List ℕ) → place_of_first (λ x. eqb x name) l ≡ position name l
unfolding position
place_among name l = position-first (λ x. eqb x name) 65535 l

-- at most 128 of a bank of an accepted profile
pub own_few : (p : List ℕ) → verdict p ≡ 0 → (b : ℕ) → b < 256 → length (scenes_of p b) ≤ 128
unfolding count_of
own_few p ok b h = rw (scenes-whole p ok b, gather-length) (few_scenes p ok b h)

-- a position of 32 bits holds every place in a list that is offered
pub position_low : (name : ℕ) (l : List ℕ) → length l ≤ 128 → IfSome (position name l) (λ i. i < 4294967296)
unfolding position
position_low name l few = go (position name l) refl
  where
    go : (q : Option ℕ) → position name l ≡ q → IfSome q (λ i. i < 4294967296)
    go (Some k) e = let h = (first-at (λ i. eqb (get_or l i 65535) name) (length l) k e).0 in omega arith
    go None e = tt

-- and so the place that a driver is told
pub told_low : (name i : ℕ) (l : List ℕ) → length l ≤ 128 → i < 4294967296 → Fits w32 (unwrap_or (position name l) i)
told_low name i l few h = go (position name l) (position_low name l few)
  where
    go : (q : Option ℕ) → IfSome q (λ k. k < 4294967296) → Fits w32 (unwrap_or q i)
    go (Some k) n = omega arith
    go None n = omega arith
