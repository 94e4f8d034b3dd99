-- The channels and the phases of a flash counted up one at a time. Assumes nothing.
use mathlib.Core.Path.{◌≡◌, refl}
use mathlib.Core.List.{List}
use Prim.Native.Nat.{ℕ, suc, ◌+◌, ◌-◌, ◌≤◌}
use native.Mathlib.Numerals.{add-one}
use native.Mathlib.Omega.{arith}
use lib.Ieee.{Float}
use Rattle.float.specs.Leaf.{due_of}
use Rattle.float.proofs.LeafLaws.{due-most}
use Rattle.drivers.specs.Talk.{Talk}
use Rattle.session.specs.declared.Flash.{Flash}
use Rattle.session.specs.declared.Lamps.{Lamps}
use Rattle.definition.specs.Rig.{Rig}
use Rattle.definition.specs.Lamps.{push_fader, push_faders}
use Rattle.definition.specs.Flash.{phase_led, phases, phases_to}

-- ── the channels ──

pub no_fader : (r : Rig) (l : Lamps) (s : List ℕ) (t : Talk) → push_faders r l s 0 t ≡ t
unfolding push_faders
no_fader r l s t = refl

pub one_fader : (r : Rig) (l : Lamps) (s : List ℕ) (n : ℕ) (t : Talk) → push_faders r l s (n + 1) t ≡ push_fader r l s n (push_faders r l s n t)
unfolding push_faders
one_fader r l s n t = rw (add-one n) refl

-- ── the phases ──

pub no_phase : (f : Flash) (t : Talk) → phases f (f.sent - f.sent) t ≡ t
unfolding phases
no_phase f t = let e : f.sent - f.sent ≡ 0 = omega arith in rw e

pub one_phase : (f : Flash) (n : ℕ) (t : Talk) → f.sent ≤ n → phases f ((n + 1) - f.sent) t ≡ phase_led f n (phases f (n - f.sent) t)
unfolding phases
one_phase f n t l =
    let e : (n + 1) - f.sent ≡ suc (n - f.sent) = omega arith in
    let k : f.sent + (n - f.sent) ≡ n = omega arith in
    rw (e, k)

-- at n phases, up to due or from the start beyond it
pub all_phases : (f : Flash) (n due : ℕ) (t : Talk) → n - f.sent ≡ due - f.sent → phases f (n - f.sent) t ≡ phases_to f due t
unfolding phases_to
all_phases f n due t e = rw e

-- at most six phases are ever due
pub due_few : (now start : Float) → due_of now start ≤ 6
due_few now start = due-most now start
