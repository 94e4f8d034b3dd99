-- More of `first`. Assumes nothing.
use Prim.Native.Nat.{ℕ, zero, suc, ◌≤◌, ◌<◌}
use Rattle.std.specs.Prelude.{◌≡◌, Bool, true, false, None, Option, Some}
use Rattle.std.proofs.Math.Path.{refl}
use Rattle.std.proofs.Common.{◌∙◌, ⊎_elim, eq-or-lt_of_le, le_of_suc-le-suc, le_antisymm, arith}
use Rattle.base.specs.First.{first, or_else}

-- what holds only below m does not hold from m on
pub not_behind : (b : Bool) (m n : ℕ) → (b ≡ true → n < m) → m ≤ n → b ≡ false
not_behind true m n h l = absurd (omega (arith, h refl))
not_behind false m n h l = refl

-- where all below n of which p holds are below m, a search that ends at m finds what one that ends at n does
pub first_short : (p : ℕ → Bool) (m n : ℕ) → m ≤ n → ((k : ℕ) → k < n → p k ≡ true → k < m) → first m p ≡ first n p
unfolding first
first_short p m zero l h = rw (le_antisymm l (omega arith))
first_short p m (suc n) l h =
    ⊎_elim
    (λ e. rw e)
    (λ b.
    first_short p m n (le_of_suc-le-suc b) (λ k c. h k (omega arith))
    ∙ rw (not_behind (p n) m n (h n (omega arith)) (omega arith)) (same (first n p)))
    (eq-or-lt_of_le l)
  where
    same : (f : Option ℕ) → f ≡ or_else f None
    same (Some k) = refl
    same None = refl
