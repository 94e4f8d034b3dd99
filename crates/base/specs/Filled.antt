-- An array that is filled from its front. Definitions only.
use Rattle.std.specs.Prelude.{ℕ, ◌-◌, ◌≤◌, ◌≡◌, List, ◌++◌, length, drop, replicate}

-- xs has `most` places, its first n are taken, and each place behind them holds x
abbrev pub Filled : {A : Type 0} (most : ℕ) (x : A) (xs : List A) (n : ℕ) → Type 0
Filled most x xs n = (n ≤ most) × (length xs ≡ most) × (drop n xs ≡ replicate (most - n) x)

-- the array that is filled with these items
abbrev pub filled_with : {A : Type 0} (most : ℕ) (x : A) → List A → List A
filled_with most x items = items ++ replicate (most - length items) x
