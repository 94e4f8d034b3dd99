-- The next bank on the left. Assumes nothing.
use mathlib.Core.Path.{◌≡◌, refl}
use Prim.Native.Nat.{ℕ, zero, suc, ◌-◌}
use native.Mathlib.Omega.{arith}
use Rattle.definition.specs.Banks.{step_left}

pub one_left : (bank : ℕ) → step_left bank ≡ bank - 1
one_left zero = refl
one_left (suc b) = omega arith
