-- Two lists side by side. Assumes nothing.
use Rattle.std.specs.Prelude.{◌≡◌, Bool, length, get_or, take, set}
use Rattle.std.proofs.Math.Path.{refl, ap}
use Rattle.std.proofs.Common.{sym, ◌∙◌, arith, length-take-le}
use mathlib.Core.List.{List, [], ◌∷◌}
use Prim.Native.Nat.{ℕ, zero, suc, ◌≤◌}
use Rattle.base.specs.Keyed.{at, any_of, all_of, no_twice, beside}

module _ {A B C : Type 0} (f : A → B → C) where
  pub beside-length : (xs : List A) (ys : List B) → length xs ≡ length ys → length (beside f xs ys) ≡ length xs
  unfolding beside
  beside-length [] ys e = refl
  beside-length (x ∷ xs) [] e = absurd (omega arith)
  beside-length (x ∷ xs) (y ∷ ys) e = ap suc (beside-length xs ys (omega arith))

  pub beside-take : (n : ℕ) (xs : List A) (ys : List B) → beside f (take n xs) (take n ys) ≡ take n (beside f xs ys)
  unfolding beside
  beside-take zero xs ys = refl
  beside-take (suc n) [] ys = refl
  beside-take (suc n) (x ∷ xs) [] = refl
  beside-take (suc n) (x ∷ xs) (y ∷ ys) = ap (λ r. f x y ∷ r) (beside-take n xs ys)

  pub beside-get_or : (a : A) (b : B) (xs : List A) (ys : List B) (i : ℕ) → length xs ≡ length ys →
      get_or (beside f xs ys) i (f a b) ≡ f (get_or xs i a) (get_or ys i b)
  unfolding beside
  beside-get_or a b [] [] i e = refl
  beside-get_or a b [] (y ∷ ys) i e = absurd (omega arith)
  beside-get_or a b (x ∷ xs) [] i e = absurd (omega arith)
  beside-get_or a b (x ∷ xs) (y ∷ ys) zero e = refl
  beside-get_or a b (x ∷ xs) (y ∷ ys) (suc i) e = beside-get_or a b xs ys i (omega arith)

  pub beside-set : (xs : List A) (ys : List B) (i : ℕ) (a : A) (b : B) → beside f (set xs i a) (set ys i b) ≡ set (beside f xs ys) i (f a b)
  unfolding beside
  beside-set [] ys i a b = refl
  beside-set (x ∷ xs) [] zero a b = refl
  beside-set (x ∷ xs) [] (suc i) a b = refl
  beside-set (x ∷ xs) (y ∷ ys) zero a b = refl
  beside-set (x ∷ xs) (y ∷ ys) (suc i) a b = ap (λ r. f x y ∷ r) (beside-set xs ys i a b)

  -- a test that looks at the first list alone
  pub beside_at : (g : C → Bool) (h : A → Bool) → ((x : A) (y : B) → g (f x y) ≡ h x) → (xs : List A) (ys : List B) → length xs ≡ length ys →
      at g (beside f xs ys) ≡ at h xs
  unfolding beside at
  beside_at g h r [] ys e = refl
  beside_at g h r (x ∷ xs) [] e = absurd (omega arith)
  beside_at g h r (x ∷ xs) (y ∷ ys) e = rw (r x y, beside_at g h r xs ys (omega arith))

  -- the place that a search among the first n of the first list gave is that among both
  pub beside-place : (g : C → Bool) (h : A → Bool) → ((x : A) (y : B) → g (f x y) ≡ h x) → (xs : List A) (ys : List B) → length xs ≡ length ys →
      (n i : ℕ) → n ≤ length xs → i ≡ at h (take n xs) → i ≡ at g (take n (beside f xs ys))
  beside-place g h r xs ys e n i l q =
      let a : length (take n xs) ≡ n = length-take-le n xs l in
      let b : length (take n ys) ≡ n = length-take-le n ys (omega arith) in
      q ∙ sym (beside_at g h r (take n xs) (take n ys) (omega arith)) ∙ ap (at g) (beside-take n xs ys)

  pub beside-any : (g : C → Bool) (h : A → Bool) → ((x : A) (y : B) → g (f x y) ≡ h x) → (xs : List A) (ys : List B) → length xs ≡ length ys →
      any_of g (beside f xs ys) ≡ any_of h xs
  unfolding beside any_of
  beside-any g h r [] ys e = refl
  beside-any g h r (x ∷ xs) [] e = absurd (omega arith)
  beside-any g h r (x ∷ xs) (y ∷ ys) e = rw (r x y, beside-any g h r xs ys (omega arith))

  pub beside_once : (g : C → C → Bool) (h : A → A → Bool) → ((x z : A) (y w : B) → g (f x y) (f z w) ≡ h x z) →
      (xs : List A) (ys : List B) → length xs ≡ length ys → no_twice g (beside f xs ys) ≡ no_twice h xs
  unfolding beside no_twice
  beside_once g h r [] ys e = refl
  beside_once g h r (x ∷ xs) [] e = absurd (omega arith)
  beside_once g h r (x ∷ xs) (y ∷ ys) e =
      rw (beside-any (g (f x y)) (h x) (λ z w. r x z y w) xs ys (omega arith), beside_once g h r xs ys (omega arith))

  -- a test that looks at the second list alone
  pub beside-all : (g : C → Bool) (h : B → Bool) → ((x : A) (y : B) → g (f x y) ≡ h y) → (xs : List A) (ys : List B) → length xs ≡ length ys →
      all_of g (beside f xs ys) ≡ all_of h ys
  unfolding beside all_of
  beside-all g h r [] [] e = refl
  beside-all g h r [] (y ∷ ys) e = absurd (omega arith)
  beside-all g h r (x ∷ xs) [] e = absurd (omega arith)
  beside-all g h r (x ∷ xs) (y ∷ ys) e = rw (r x y, beside-all g h r xs ys (omega arith))
