-- A list made of the numbers below n of which p holds, in their order. Definition only.
use Rattle.std.specs.Prelude.{ℕ, zero, suc, Bool, List, [], ◌∷◌, ◌++◌}
use Rattle.base.specs.Choice.{pick}

-- g of each
unfoldable pub gather : {A : Type 0} → ℕ → (ℕ → Bool) → (ℕ → A) → List A
gather zero p g = []
gather (suc n) p g = gather n p g ++ pick (p n) (g n ∷ []) []
