-- A well-shaped session over an accepted profile is within its capacities. That no event then ends for want of room is in proofs/WellRoom.
use Rattle.std.specs.Prelude.{ℕ, ◌≡◌, true, List, [], ◌∷◌}
use Rattle.std.proofs.Common.{ap, arith, leb-true, eqb-true}
use Rattle.base.specs.Keyed.{all_of}
use Rattle.base.proofs.Pigeon.{left_of_lem, right_of}
use Rattle.base.proofs.RangeLaws.{every-at}
use Rattle.profile.specs.Profile.{byte_at, verdict}
use Rattle.profile.proofs.FieldLaws.{encoder-at}
use Rattle.profile.proofs.Accepted.{accepted}
use Rattle.lookup.specs.declared.Destination.{Destination}
use Rattle.session.specs.Session.{Turn, good_strip}
use Rattle.session.proofs.SessionLaws.{line_fits}
use Rattle.session.specs.declared.Strip.{Strip}
use Rattle.definition.specs.Step.{Kept}
use Rattle.bounds.specs.Drivers.{Each, no_more, one_more, MayTurn, MayStrip}
use Rattle.bounds.specs.Room.{IsDriver, Within}
use Rattle.bounds.specs.Well.{Wired, WiredTurn, Well}
use Rattle.bounds.proofs.WellFlash.{shaped-playing}

good_may : (l : List Strip) → all_of good_strip l ≡ true → Each (MayStrip IsDriver) l
unfolding all_of
good_may [] h = no_more
good_may (s ∷ l) h =
    let c = leb-true s.driver 15 (every-at _ 2 (left_of_lem (good_strip s) (all_of good_strip l) h)) in
    let d : IsDriver s.driver = omega (arith, c) in
    one_more d (good_may l (right_of (good_strip s) (all_of good_strip l) h))

module _ (p : List ℕ) (yes : verdict p ≡ 0) where
  wired_may : (d : Destination) → Wired p d → IsDriver d.driver
  wired_may d h =
      let i = h.at in
      let w = encoder-at p (accepted p yes).fields i h.wires.in_file (eqb-true (byte_at p i 0) 3 h.wires.encoder) in
      let q : byte_at p i 4 ≡ d.driver = ap (λ (x : Destination). x.driver) h.wires.to in
      omega (arith, w.driver, q)

  turns_may : (l : List Turn) → Each (WiredTurn p) l → Each (MayTurn IsDriver) l
  turns_may [] h = no_more
  turns_may (e ∷ l) (one_more w h) = one_more (wired_may e.dest w) (turns_may l h)

  module _ (k : Kept) (well : Well p k) where
    -- a well-shaped session is within its capacities
    pub well_within : Within k
    well_within =
        record {
          drivers = record { lives = λ b. good_may _ (well.lives b).good; turns = turns_may k.desk.turns well.wired };
          turns = well.few;
          line = line_fits k.desk.line well.line;
          opened = well.opened;
          flash = λ e. (shaped-playing k.lamps.flash well.flash e).begun;
        }
