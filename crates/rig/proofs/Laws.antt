-- The bank's own faders, counted up one at a time: their drivers, and the first target on a driver. Assumes nothing.
use Rattle.std.proofs.Common.{None, Option, Some, is_some}
use mathlib.Core.Path.{◌≡◌, refl, sym, ap, ◌∙◌}
use mathlib.Core.Logic.{◌⊎◌, inl, inr}
use mathlib.Core.Bool.{Bool, true, false, true≢false, false≢true}
use mathlib.Core.List.{List, [], ◌∷◌, ◌++◌, append-nil}
use Prim.Native.Nat.{ℕ, zero, suc, ◌+◌, ◌≤◌, ◌<◌}
use native.Mathlib.Numerals.{add-one}
use native.Mathlib.Omega.{arith}
use lib.Dec.{leb}
use borrow.Author.Tests.{leb-true, leb-false}
use Rattle.rig.specs.Seen.{target_if}
use Rattle.lookup.specs.Lookup.{named}
use Rattle.lookup.proofs.NamedLaws.{its_name, named_absent}
use Rattle.lookup.specs.declared.Destination.{Destination}
use Rattle.definition.specs.Rig.{Here, own_fader, driver_in, own_drivers, first_target}

-- ── what a fader adds to the drivers so far ──

pub no_driver : (f : Option Destination) (s : List ℕ) → f ≡ None → s ≡ s ++ driver_in f
no_driver f s e = rw (e, append-nil)

pub its_driver : (f : Option Destination) (d : Destination) (s : List ℕ) → f ≡ Some d → s ++ (d.driver ∷ []) ≡ s ++ driver_in f
its_driver f d s e = rw e

module _ (h : Here) where
  -- ── the drivers ──
  pub no_drivers : [] ≡ own_drivers h 0
  unfolding own_drivers
  no_drivers = refl

  -- f is what fader n + 1 is wired to
  pub one-driver : (n : ℕ) (f : Option Destination) (s t : List ℕ) → f ≡ own_fader h (n + 1) → s ≡ own_drivers h n → t ≡ s ++ driver_in f → t ≡ own_drivers h (n + 1)
  unfolding own_drivers
  one-driver n f s t a b d = rw (add-one n, ← a, ← b) d

  -- ── the first target: none among the first n ──
  module _ (driver : ℕ) where
    pub no_target : first_target h driver 0 ≡ None
    unfolding first_target
    no_target = refl

    -- r is what fader n + 1 has on the driver
    pub one_more : (n : ℕ) (f : Option Destination) (r : Option ℕ) → f ≡ own_fader h (n + 1) → r ≡ target_if driver f → first_target h driver n ≡ None →
        r ≡ first_target h driver (n + 1)
    unfolding first_target
    one_more n f r a d p = rw (add-one n, p, ← a) d

    -- one that is found stays the first
    pub stays : (t m n : ℕ) → first_target h driver n ≡ Some t → n ≤ m → first_target h driver m ≡ Some t
    unfolding first_target
    stays t zero n e l =
        let q : n ≡ 0 = omega arith in
        rw q at e
    stays t (suc m) n e l = go (leb n m) refl (λ k. stays t m n e k)
      where
        go : (b : Bool) → leb n m ≡ b → (n ≤ m → first_target h driver m ≡ Some t) → first_target h driver (suc m) ≡ Some t
        go true q ih = rw (ih (leb-true n m q))
        go false q ih =
            let k : m < n = leb-false n m q in
            let r : n ≡ suc m = omega arith in
            rw r at e

    pub is-first : (r : Option ℕ) (n : ℕ) → n < 16 → is_some r ≡ true → r ≡ first_target h driver (n + 1) → r ≡ first_target h driver 16
    is-first None n l s e = absurd (false≢true s)
    is-first (Some t) n l s e = sym (stays t 16 (n + 1) (sym e) (omega arith))

    pub none-yet : (r : Option ℕ) (n : ℕ) → is_some r ≡ false → r ≡ first_target h driver (n + 1) → first_target h driver (n + 1) ≡ None
    none-yet None n s e = sym e
    none-yet (Some t) n s e = absurd (true≢false s)

-- what an accepted profile names as a bank's driver is a byte
pub low_driver : (own n : ℕ) → (n ≤ 15) ⊎ (n ≡ 65535) → Some own ≡ named n → own < 256
low_driver own n (inl h) e = omega (arith, its_name n own e)
low_driver own n (inr h) e = absurd (false≢true (ap is_some (sym (named_absent) ∙ (rw h at (sym e)))))
