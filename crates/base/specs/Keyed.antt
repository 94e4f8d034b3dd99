-- What the bridge does with a list that it looks into by a test. No capacity and no index: definitions are made of these, and code keeps such a list
-- as the first n of an array (proofs/KeyedLaws). Definitions only.
use Rattle.std.specs.Prelude.{Bool, true, false, List, [], ◌∷◌, ℕ, suc, None, Option, Some}
use Rattle.base.specs.Choice.{pick}

module _ {A : Type 0} where
  -- the place of the first that passes; the length, if none does
  unfoldable pub at : (A → Bool) → List A → ℕ
  at f [] = 0
  at f (x ∷ xs) = pick (f x) 0 (suc (at f xs))

  -- the first that passes
  unfoldable pub find : (A → Bool) → List A → Option A
  find f [] = None
  find f (x ∷ xs) = pick (f x) (Some x) (find f xs)

  unfoldable pub any_of : (A → Bool) → List A → Bool
  any_of f [] = false
  any_of f (x ∷ xs) = pick (f x) true (any_of f xs)

  unfoldable pub all_of : (A → Bool) → List A → Bool
  all_of f [] = true
  all_of f (x ∷ xs) = pick (f x) (all_of f xs) false

  -- the first that passes becomes g of it; if none does, y comes behind
  unfoldable pub change : (A → Bool) → (A → A) → A → List A → List A
  change f g y [] = y ∷ []
  change f g y (x ∷ xs) = pick (f x) (g x ∷ xs) (x ∷ change f g y xs)

  -- those that pass, in their order
  unfoldable pub keep : (A → Bool) → List A → List A
  keep f [] = []
  keep f (x ∷ xs) = pick (f x) (x ∷ keep f xs) (keep f xs)

  -- no two are the same
  unfoldable pub no_twice : (A → A → Bool) → List A → Bool
  no_twice same [] = true
  no_twice same (x ∷ xs) = pick (any_of (same x) xs) false (no_twice same xs)

-- two lists side by side, each two made into one
module _ {A B C : Type 0} where
  unfoldable pub beside : (A → B → C) → List A → List B → List C
  beside f [] ys = []
  beside f (x ∷ xs) [] = []
  beside f (x ∷ xs) (y ∷ ys) = f x y ∷ beside f xs ys
