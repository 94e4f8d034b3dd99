-- A restore leaves a well-shaped session well shaped: it sets the current bank to one that the profile has, and positions, of which number 8 says nothing.
use Rattle.std.proofs.Common.{None, Option, Some}
use Prim.Native.Nat.{ℕ, zero, suc, ◌<◌}
use mathlib.Core.Path.{◌≡◌, refl, ◌∙◌}
use mathlib.Core.Bool.{Bool, true, false, ◌&&◌}
use mathlib.Core.List.{List}
use lib.Dec.{eqb, ltb}
use borrow.Author.Tests.{ltb-true, lt-ltb}
use Rattle.base.specs.Choice.{pick}
use Rattle.base.proofs.FirstLaws.{first-at}
use Rattle.base.specs.Range.{every}
use Rattle.base.proofs.RangeLaws.{and_left, and_right}
use Rattle.profile.specs.Profile.{bank_count}
use Rattle.lookup.specs.Lookup.{bank_named, remember_of}
use Rattle.session.specs.Session.{scene_to}
use Rattle.session.specs.declared.Lamps.{Lamps}
use Rattle.session.specs.declared.Session.{Session}
use Rattle.definition.specs.Shape.{well_shaped}
use Rattle.state.specs.Saved.{kind_at, name_at, scene_in, saved_count, scene_for, restore_scene, restore_scenes, bank_for, restore_device, restore_bank, resumed, restore_refusal, restoring}

module _ (p s : List ℕ) where
  -- ── the current bank ──
  device-below : (k bank : ℕ) → bank < bank_count p → restore_device p s k bank < bank_count p
  unfolding restore_device bank_named
  device-below k bank h = go (eqb (kind_at s k) 1) (bank_named p (name_at s k)) refl
    where
      to : (w : Option ℕ) → bank_named p (name_at s k) ≡ w → bank_for w bank < bank_count p
      to (Some b) e = (first-at _ (bank_count p) b e).0
      to None e = h

      go : (b : Bool) (w : Option ℕ) → bank_named p (name_at s k) ≡ w → pick b (bank_for w bank) bank < bank_count p
      go true w e = to w e
      go false w e = h

  bank_below : (n bank : ℕ) → bank < bank_count p → restore_bank p s n bank < bank_count p
  unfolding restore_bank
  bank_below zero bank h = h
  bank_below (suc n) bank h = device-below n (restore_bank p s n bank) (bank_below n bank h)

  -- ── the flash ──
  scene_keeps : (k : ℕ) (l : Lamps) → (restore_scene p s k l).flash ≡ l.flash
  unfolding restore_scene scene_to
  scene_keeps k l = go (eqb (kind_at s k) 2) (bank_named p (name_at s k))
    where
      go : (b : Bool) (w : Option ℕ) → (pick b (scene_for w (scene_in s k) l) l).flash ≡ l.flash
      go true (Some b) = refl
      go true None = refl
      go false w = refl

  scenes-keep : (n : ℕ) (l : Lamps) → (restore_scenes p s n l).flash ≡ l.flash
  unfolding restore_scenes
  scenes-keep zero l = refl
  scenes-keep (suc n) l = scene_keeps n (restore_scenes p s n l) ∙ scenes-keep n l

  -- ── the session ──
  module _ (x : Session) (well : well_shaped p x ≡ true) where
    resumed_well : well_shaped p (resumed p s x) ≡ true
    unfolding well_shaped every resumed
    resumed_well =
        let b = ltb-true x.bank (bank_count p) (and_left (ltb x.bank (bank_count p)) _ well) in
        rw (scenes-keep (saved_count s) x.lamps, lt-ltb _ _ (bank_below (saved_count s) x.bank b)) (and_right (ltb x.bank (bank_count p)) _ well)

    -- whether it restores, is declined or need not remember
    pub restoring_well : well_shaped p (restoring p s x).session ≡ true
    unfolding restoring
    restoring_well = go (eqb (restore_refusal p s x) 0 && remember_of p)
      where
        go : (b : Bool) → well_shaped p (pick b (resumed p s x) x) ≡ true
        go true = resumed_well
        go false = well
