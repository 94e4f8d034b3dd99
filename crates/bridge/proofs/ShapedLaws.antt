-- Number 8 never comes up where a host starts from a fresh session over an accepted profile and hands on what the bridge handed back: the fresh session is well
-- shaped, and so is what an event leaves of a well-shaped one. (A restore keeps it too: `state/proofs/Restoring`.) Assumes nothing.
use Prim.Native.Nat.{ℕ}
use mathlib.Core.Path.{◌≡◌, refl, sym, subst}
use mathlib.Core.Bool.{Bool, true, false}
use mathlib.Core.List.{List}
use native.Mathlib.Omega.{arith}
use Rattle.base.specs.Keyed.{all_of, beside}
use Rattle.profile.specs.Profile.{verdict}
use Rattle.session.specs.Session.{fresh_session}
use Rattle.session.specs.declared.Session.{Session}
use Rattle.definition.specs.Shape.{well_shaped}
use Rattle.definition.specs.Step.{Kept, fresh_kept, Stepped, seen}
use Rattle.bounds.specs.Well.{Well}
use Rattle.bounds.proofs.FreshWell.{fresh_well}
use Rattle.after.specs.After.{Places}
use Rattle.delivery.specs.Delivery.{is_done}
use Rattle.bridge.specs.Bridge.{Delivers}
use Rattle.bridge.specs.declared.Stepped as declared
use Rattle.bridge.proofs.Fit.{shaped-again}

-- ── a fresh session ──

-- it is seen as what the definition starts from
pub fresh-seen : (p : List ℕ) → seen p fresh_session ≡ fresh_kept
unfolding seen fresh_session beside
fresh-seen p = refl

-- its lists are empty
fresh_places : (p : List ℕ) → Places p fresh_session
unfolding fresh_session all_of
fresh_places p = record { line = omega arith; turns = omega arith; encoders = refl; silenced = omega arith; live = refl }

-- it is well shaped over an accepted profile, which has a bank for it
pub fresh-shaped : (p : List ℕ) → verdict p ≡ 0 → well_shaped p fresh_session ≡ true
fresh-shaped p ok = shaped-again p fresh_session (subst (λ (k : Kept). Well p k) (sym (fresh-seen p)) (fresh_well p ok)) (fresh_places p)

-- ── an event ──

-- what the bridge hands back is well shaped if what it was handed is: a done event's session by the promise, any other's since it is the same
pub stays-shaped : (d : Stepped) (p : List ℕ) (s : Session) (ms cs : List ℕ) (r : declared.Stepped) (ms₁ cs₁ : List ℕ) →
    Delivers d p s ms cs r ms₁ cs₁ → well_shaped p s ≡ true → well_shaped p r.session ≡ true
stays-shaped d p s ms cs r ms₁ cs₁ x shaped = at (is_done d.ended) refl
  where
    at : (b : Bool) → is_done d.ended ≡ b → well_shaped p r.session ≡ true
    at true q = x.leaves.shaped q
    at false q = subst (λ (z : Session). well_shaped p z ≡ true) (sym (x.leaves.still q)) shaped
