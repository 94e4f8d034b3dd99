-- An event as the host offers it, in bytes: one that is done passed the numbers 1 to 10, and the laws of an event hold of it from the session's struct on.
use Rattle.std.specs.Prelude.{ℕ, ◌≤◌, ◌<◌, ◌≡◌, Bool, ◌||◌, List, eqb, length, get_or}
use Rattle.std.proofs.Math.Path.{refl}
use Rattle.std.proofs.Common.{subst, arith, eqb-true, None, Option, Some}
use Rattle.std.proofs.Math.Bool.{true, false}
use Rattle.std.proofs.Math.Dec.{ltb}
use Rattle.base.specs.Choice.{pick}
use Rattle.profile.specs.Profile.{verdict}
use Rattle.lookup.specs.View.{view_of}
use Rattle.drivers.specs.declared.Call.{Call}
use Rattle.session.specs.declared.Session.{Session}
use Rattle.event.specs.Event.{read_of}
use Rattle.event.specs.declared.Timed.{Timed}
use Rattle.definition.specs.Shape.{well_shaped}
use Rattle.definition.specs.Step.{Kept, seen, done, refused, Stepped, stepped, step}
use Rattle.definition.specs.Whole.{whole, offered}
use Rattle.bounds.specs.Well.{Well}
use Rattle.bounds.proofs.WellRoom.{well_few}
use Rattle.bounds.proofs.WellStep.{step_well}
use Rattle.bounds.proofs.Channels.{read_low}
use Rattle.bounds.proofs.Offered.{well_seen}

-- ── an event that is done ──

-- a refused event is not done
not_done : (why : ℕ) {ms : List (List ℕ)} {cs : List Call} {used : ℕ} {saved : Bool} → refused why ≡ done ms cs used saved → ⊥
not_done why q = let z : ◌≡◌ {A = ℕ} 0 1 = cc in omega arith

module _ (p : List ℕ) (s : Session) (record_of answers : List ℕ) (messages calls : ℕ) where
  -- it passed the numbers 1 to 10, and is the event that its record says
  record Passed (x : Stepped) : Type 0 where
    accepted : verdict p ≡ 0
    shaped : well_shaped p s ≡ true
    event : Timed
    read : read_of record_of ≡ Some event
    so : x ≡ step (view_of p) (seen p s) event answers

  module _ (ms : List (List ℕ)) (cs : List Call) (used : ℕ) (saved : Bool) where
    abbrev IsDone : Stepped → Type 0
    IsDone x = x.ended ≡ done ms cs used saved

    passed : IsDone (whole p s record_of answers messages calls) → Passed (whole p s record_of answers messages calls)
    unfolding whole
    passed q = verdict-at (eqb (verdict p) 0) refl q
      where
        k : Kept
        k = seen p s

        read_at : (r : Option Timed) → read_of record_of ≡ r → verdict p ≡ 0 → well_shaped p s ≡ true → IsDone (offered r p k answers) → Passed (offered r p k answers)
        read_at (Some e) i a w h = record { accepted = a; shaped = w; event = e; read = i; so = refl }
        read_at None i a w h = absurd (not_done 10 h)

        room_at_lem : (b : Bool) → verdict p ≡ 0 → well_shaped p s ≡ true → IsDone (pick b (stepped (refused 9) k) (offered (read_of record_of) p k answers)) →
            Passed (pick b (stepped (refused 9) k) (offered (read_of record_of) p k answers))
        room_at_lem true a w h = absurd (not_done 9 h)
        room_at_lem false a w h = read_at (read_of record_of) refl a w h

        shape_at : (b : Bool) → verdict p ≡ 0 → well_shaped p s ≡ b →
            IsDone (pick b (pick (ltb messages 306 || ltb calls 5392) (stepped (refused 9) k) (offered (read_of record_of) p k answers)) (stepped (refused 8) k)) →
            Passed (pick b (pick (ltb messages 306 || ltb calls 5392) (stepped (refused 9) k) (offered (read_of record_of) p k answers)) (stepped (refused 8) k))
        shape_at true a w h = room_at_lem (ltb messages 306 || ltb calls 5392) a w h
        shape_at false a w h = absurd (not_done 8 h)

        verdict-at : (b : Bool) → eqb (verdict p) 0 ≡ b →
            IsDone
            (pick b (pick (well_shaped p s) (pick (ltb messages 306 || ltb calls 5392) (stepped (refused 9) k) (offered (read_of record_of) p k answers)) (stepped (refused 8) k))
            (stepped (refused (verdict p)) k)) →
            Passed
            (pick b (pick (well_shaped p s) (pick (ltb messages 306 || ltb calls 5392) (stepped (refused 9) k) (offered (read_of record_of) p k answers)) (stepped (refused 8) k))
            (stepped (refused (verdict p)) k))
        verdict-at true i h = shape_at (well_shaped p s) (eqb-true (verdict p) 0 i) refl h
        verdict-at false i h = absurd (not_done (verdict p) h)

    module _ (long : length s.opened ≡ 16) (q : IsDone (whole p s record_of answers messages calls)) where
      -- at most 102 messages and 337 calls
      pub whole_few : (length ms ≤ 102) × (length cs ≤ 337)
      whole_few =
          let h = passed q in
          well_few p h.accepted (seen p s) (well_seen p s long h.shaped) h.event answers ms cs used saved
          (subst (λ (x : Stepped). IsDone x) h.so q)

      -- what it leaves is well shaped; the record is of bytes
      pub whole_well : ((j : ℕ) → get_or record_of j 0 < 256) → Well p (whole p s record_of answers messages calls).kept
      whole_well bytes =
          let h = passed q in
          rw h.so
          (step_well p h.accepted (seen p s) (well_seen p s long h.shaped) h.event (read_low record_of bytes h.event h.read) answers)
