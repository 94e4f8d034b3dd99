-- What is filled from its front is given back by its items, and stays filled when one more stands there. Assumes nothing.
use Rattle.std.specs.Prelude.{ℕ, ◌+◌, ◌-◌, ◌<◌, ◌≤◌, ◌≡◌, List, length, take, drop, set, replicate}
use Rattle.std.proofs.Common.{arith, drop-drop, length-set, length-take-le, take-append-drop}
use Rattle.std.proofs.lemmas.List.{drop-set-lt, drop-replicate}
use Rattle.base.specs.Filled.{Filled, filled_with}

module _ {A : Type 0} (most : ℕ) (x : A) (xs : List A) (n : ℕ) where
  pub taken : Filled most x xs n → length (take n xs) ≡ n
  taken h = length-take-le n xs (omega (arith, h.0, h.1))

  pub given_back : Filled most x xs n → filled_with most x (take n xs) ≡ xs
  given_back h = rw (taken h, ← h.2) (take-append-drop n xs)

  -- one of those that are taken or the next is written
  module _ (y : A) (j : ℕ) (l : j ≤ n) where
    rest_same : drop n xs ≡ replicate (most - n) x → drop (n + 1) (set xs j y) ≡ replicate (most - (n + 1)) x
    rest_same h = let m : most - n - 1 ≡ most - (n + 1) = omega arith in
        rw (drop-set-lt (n + 1) xs j y (omega arith), ← drop-drop 1 n xs, h, drop-replicate 1 (most - n) x, m)

    pub one_more : Filled most x xs n → length (take n xs) < most → Filled most x (set xs j y) (n + 1)
    one_more h r = (omega (arith, r, taken h), rw (length-set xs j y) h.1, rest_same h.2)
