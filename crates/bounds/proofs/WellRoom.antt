-- In every well-shaped session over an accepted profile, no event ends for want of room: at most 102 messages and 337 calls.
use Rattle.std.specs.Prelude.{ℕ, ◌≤◌, ◌≡◌, Bool, List, length}
use Rattle.profile.specs.Profile.{verdict}
use Rattle.lookup.specs.View.{view_of}
use Rattle.drivers.specs.Talk.{start}
use Rattle.drivers.specs.declared.line.Stop.TheVariants.{Overrun}
use Rattle.drivers.specs.declared.Call.{Call}
use Rattle.event.specs.declared.Timed.{Timed}
use Rattle.definition.specs.Step.{Kept, act, step, done}
use Rattle.bounds.specs.Well.{Well}
use Rattle.bounds.proofs.Profiles.{accepted_sound}
use Rattle.bounds.proofs.WellWithin.{well_within}
use Rattle.bounds.proofs.RoomLaws.{never_overrun, few_within}

module _ (p : List ℕ) (yes : verdict p ≡ 0) where
  module _ (k : Kept) (well : Well p k) where
    module _ (e : Timed) (answers : List ℕ) where
      -- the line never stops for want of room
      pub well_never_overrun : (act e.what (view_of p) k e.time (start answers k.opened)).talk.stop ≡ Overrun → ⊥
      well_never_overrun q = never_overrun (view_of p) k (accepted_sound p yes) (well_within p yes k well) e answers q

      -- a done event has at most 102 messages and 337 calls
      pub well_few : (ms : List (List ℕ)) (cs : List Call) (used : ℕ) (saved : Bool) →
          (step (view_of p) k e answers).ended ≡ done ms cs used saved → (length ms ≤ 102) × (length cs ≤ 337)
      well_few ms cs used saved q = few_within (view_of p) k (accepted_sound p yes) (well_within p yes k well) e answers ms cs used saved q
