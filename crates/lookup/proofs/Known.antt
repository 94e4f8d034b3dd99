-- What is known of what an accepted profile's lookups find. Assumes nothing.
use Rattle.std.specs.Prelude.{ℕ, ◌≡◌, List}
use borrow.Author.Tests.{eqb-true}
use Rattle.base.proofs.RangeLaws.{and_left}
use Rattle.profile.specs.Profile.{records, byte_at, half_at, verdict}
use Rattle.lookup.specs.Gather.{gather}
use Rattle.lookup.proofs.Found.{in_reach}
use Rattle.lookup.proofs.GatherLaws.{gather_short}
use Rattle.lookup.specs.Lookup.{reach, of_part, scenes_of, entry_at, transports_of}
use Rattle.lookup.proofs.LookupLaws.{reach-le}

module _ (s : List ℕ) (ok : verdict s ≡ 0) where
  -- a bank's scenes are all that the file has
  pub scenes-whole : (b : ℕ) → scenes_of s b ≡ gather (records s) (of_part s 4 b) (λ k. half_at s k 4)
  unfolding scenes_of
  scenes-whole b =
      gather_short (of_part s 4 b) (λ k. half_at s k 4) (reach s 4) (records s) (reach-le s 4)
      (λ k l e. in_reach s ok 4 k l (eqb-true (byte_at s k 0) 4 (and_left _ _ e)))

  -- and so are a part's transport buttons
  pub transports-whole : (part : ℕ) → transports_of s part ≡ gather (records s) (of_part s 5 part) (entry_at s)
  unfolding transports_of
  transports-whole part =
      gather_short (of_part s 5 part) (entry_at s) (reach s 5) (records s) (reach-le s 5)
      (λ k l e. in_reach s ok 5 k l (eqb-true (byte_at s k 0) 5 (and_left _ _ e)))
