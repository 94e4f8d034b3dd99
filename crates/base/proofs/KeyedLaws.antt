-- The lists of Keyed.antt, kept as the first n of an array xs. Each law holds for every array; its capacity is `length xs`. Assumes nothing.
use Rattle.std.specs.Prelude.{◌≡◌, Bool, get_or, take, ltb, leb, None, Some}
use Rattle.std.proofs.Math.Path.{refl, ap}
use Rattle.std.proofs.Common.{sym, ◌∙◌, subst, true≢false, add-one, take-suc, take-suc-set, get_or-take, length-take-le, leb-false, ltb-true, ltb-false}
use Rattle.std.proofs.Math.Bool.{true, false}
use mathlib.Core.List.{List, [], ◌∷◌, ◌++◌, map, append-nil}
use Prim.Native.Nat.{ℕ, zero, suc, ◌+◌, ◌≤◌, ◌<◌}
use native.Mathlib.Omega.{arith}
use Rattle.std.proofs.Math.ListN.{length, set}
use Rattle.std.proofs.lemmas.List.{length-map}
use Rattle.std.proofs.Math.Seq.{take-set-lt}
use Rattle.base.proofs.Pigeon.{all_append, once_append}
use Rattle.base.specs.Choice.{pick}
use Rattle.base.specs.Keyed.{at, find, any_of, all_of, change, keep, no_twice}

-- an array's length, from what is known of a parameter or a result: `search long`
pub long : (X Y : Type 0) (f : X → Y) (l : List X) (n : ℕ) → length (map f l) ≡ n → length l ≡ n
long X Y f l n e = sym (length-map l f) ∙ e

-- a change of one element, seen through a map
pub map-set : {A B : Type 0} (f : A → B) (l : List A) (i : ℕ) (x : A) → map f (set l i x) ≡ set (map f l) i (f x)
map-set f [] i x = refl
map-set f (y ∷ l) zero x = refl
map-set {B = B} f (y ∷ l) (suc i) x = ap (λ (t : List B). f y ∷ t) (map-set f l i x)

-- an element that is there, whatever stands for none
pub other_none : {A : Type 0} (xs : List A) (i : ℕ) (d e : A) → i < length xs → get_or xs i d ≡ get_or xs i e
other_none [] i d e h = absurd (omega arith)
other_none (x ∷ xs) zero d e h = refl
other_none (x ∷ xs) (suc i) d e h = other_none xs i d e (omega arith)

module _ {A : Type 0} (f : A → Bool) (d : A) where
  -- ── a search that counts up: none of the first i passes ──
  pub at_none : (xs : List A) → at f (take 0 xs) ≡ 0
  unfolding at
  at_none [] = refl
  at_none (x ∷ xs) = refl

  pub at_more : (xs : List A) (i : ℕ) → i < length xs → at f (take i xs) ≡ i → f (get_or xs i d) ≡ false → at f (take (suc i) xs) ≡ suc i
  unfolding at
  at_more [] i h e g = omega arith
  at_more (x ∷ xs) zero h e g = rw g (ap suc (at_none xs))
  at_more (x ∷ xs) (suc i) h e g = go (f x) e (λ k. at_more xs i (omega arith) k g)
    where
      go : (b : Bool) → pick b 0 (suc (at f (take i xs))) ≡ suc i → (at f (take i xs) ≡ i → at f (take (suc i) xs) ≡ suc i) →
          pick b 0 (suc (at f (take (suc i) xs))) ≡ suc (suc i)
      go true k ih = omega arith
      go false k ih = ap suc (ih (omega arith))

  pub at-hit : (xs : List A) (i n : ℕ) → i < n → n ≤ length xs → at f (take i xs) ≡ i → f (get_or xs i d) ≡ true → at f (take n xs) ≡ i
  unfolding at
  at-hit [] i n h l e g = omega arith
  at-hit (x ∷ xs) i zero h l e g = omega arith
  at-hit (x ∷ xs) zero (suc n) h l e g = rw g
  at-hit (x ∷ xs) (suc i) (suc n) h l e g = go (f x) e (λ k. at-hit xs i n (omega arith) (omega arith) k g)
    where
      go : (b : Bool) → pick b 0 (suc (at f (take i xs))) ≡ suc i → (at f (take i xs) ≡ i → at f (take n xs) ≡ i) →
          pick b 0 (suc (at f (take n xs))) ≡ suc i
      go true k ih = omega arith
      go false k ih = ap suc (ih (omega arith))

  pub at_done : (xs : List A) (i n : ℕ) → i ≤ n → n ≤ i → at f (take i xs) ≡ i → i ≡ at f (take n xs)
  at_done xs i n h l e = let q : i ≡ n = omega arith in subst (λ (m : ℕ). i ≡ at f (take m xs)) q (sym e)

  pub at-le : (xs : List A) → at f xs ≤ length xs
  unfolding at
  at-le [] = omega arith
  at-le (x ∷ xs) = go (f x) (at-le xs)
    where
      go : (b : Bool) → at f xs ≤ length xs → pick b 0 (suc (at f xs)) ≤ suc (length xs)
      go true k = omega arith
      go false k = omega arith

  -- ── what is at the place that a search gave ──
  pub find_at : (xs : List A) → at f xs < length xs → find f xs ≡ Some (get_or xs (at f xs) d)
  unfolding at find
  find_at [] h = absurd (omega arith)
  find_at (x ∷ xs) h = go (f x) h (find_at xs)
    where
      go : (b : Bool) → pick b 0 (suc (at f xs)) < suc (length xs) → (at f xs < length xs → find f xs ≡ Some (get_or xs (at f xs) d)) →
          pick b (Some x) (find f xs) ≡ Some (get_or (x ∷ xs) (pick b 0 (suc (at f xs))) d)
      go true k ih = refl
      go false k ih = ih (omega arith)

  pub find_no : (xs : List A) → length xs ≤ at f xs → find f xs ≡ None
  unfolding at find
  find_no [] h = refl
  find_no (x ∷ xs) h = go (f x) h (find_no xs)
    where
      go : (b : Bool) → suc (length xs) ≤ pick b 0 (suc (at f xs)) → (length xs ≤ at f xs → find f xs ≡ None) →
          pick b (Some x) (find f xs) ≡ None
      go true k ih = absurd (omega arith)
      go false k ih = ih (omega arith)

  pub any_yes : (xs : List A) → at f xs < length xs → any_of f xs ≡ true
  unfolding at any_of
  any_yes [] h = absurd (omega arith)
  any_yes (x ∷ xs) h = go (f x) h (any_yes xs)
    where
      go : (b : Bool) → pick b 0 (suc (at f xs)) < suc (length xs) → (at f xs < length xs → any_of f xs ≡ true) → pick b true (any_of f xs) ≡ true
      go true k ih = refl
      go false k ih = ih (omega arith)

  pub any_no : (xs : List A) → length xs ≤ at f xs → any_of f xs ≡ false
  unfolding at any_of
  any_no [] h = refl
  any_no (x ∷ xs) h = go (f x) h (any_no xs)
    where
      go : (b : Bool) → suc (length xs) ≤ pick b 0 (suc (at f xs)) → (length xs ≤ at f xs → any_of f xs ≡ false) → pick b true (any_of f xs) ≡ false
      go true k ih = absurd (omega arith)
      go false k ih = ih (omega arith)

  pub change-at : (g : A → A) (y : A) (xs : List A) → at f xs < length xs → change f g y xs ≡ set xs (at f xs) (g (get_or xs (at f xs) d))
  unfolding at change
  change-at g y [] h = absurd (omega arith)
  change-at g y (x ∷ xs) h = go (f x) h (change-at g y xs)
    where
      go : (b : Bool) → pick b 0 (suc (at f xs)) < suc (length xs) →
          (at f xs < length xs → change f g y xs ≡ set xs (at f xs) (g (get_or xs (at f xs) d))) →
          pick b (g x ∷ xs) (x ∷ change f g y xs) ≡ set (x ∷ xs) (pick b 0 (suc (at f xs))) (g (get_or (x ∷ xs) (pick b 0 (suc (at f xs))) d))
      go true k ih = refl
      go false k ih = ap (λ l. x ∷ l) (ih (omega arith))

  pub change-end : (g : A → A) (y : A) (xs : List A) → length xs ≤ at f xs → change f g y xs ≡ xs ++ (y ∷ [])
  unfolding at change
  change-end g y [] h = refl
  change-end g y (x ∷ xs) h = go (f x) h (change-end g y xs)
    where
      go : (b : Bool) → suc (length xs) ≤ pick b 0 (suc (at f xs)) → (length xs ≤ at f xs → change f g y xs ≡ xs ++ (y ∷ [])) →
          pick b (g x ∷ xs) (x ∷ change f g y xs) ≡ (x ∷ xs) ++ (y ∷ [])
      go true k ih = absurd (omega arith)
      go false k ih = ap (λ l. x ∷ l) (ih (omega arith))

  -- ── the same of an array's first n, as the code leaves it. i is what the search gave ──
  module _ (xs : List A) (n i : ℕ) (e : i ≡ at f (take n xs)) where
    seen_long : n ≤ length xs → length (take n xs) ≡ n
    seen_long l = length-take-le n xs l

    pub found_le : n ≤ length xs → i ≤ n
    found_le l = omega (arith, seen_long l, at-le (take n xs))

    pub found : n ≤ length xs → i < n → find f (take n xs) ≡ Some (get_or xs i d)
    found l h = find_at (take n xs) (omega (arith, seen_long l)) ∙ rw (← e, get_or-take)

    pub not_found : n ≤ length xs → n ≤ i → find f (take n xs) ≡ None
    not_found l h = find_no (take n xs) (omega (arith, seen_long l))

    pub is_there : n ≤ length xs → i < n → any_of f (take n xs) ≡ true
    is_there l h = any_yes (take n xs) (omega (arith, seen_long l))

    pub not_there : n ≤ length xs → n ≤ i → any_of f (take n xs) ≡ false
    not_there l h = any_no (take n xs) (omega (arith, seen_long l))

    pub is_any : n ≤ length xs → any_of f (take n xs) ≡ ltb i n
    is_any l = go (ltb i n) refl
      where
        go : (b : Bool) → ltb i n ≡ b → any_of f (take n xs) ≡ ltb i n
        go true h = is_there l (ltb-true i n h) ∙ sym h
        go false h = not_there l (ltb-false i n h) ∙ sym h

    pub change_in : (g : A → A) (y : A) → n ≤ length xs → i < n → take n (set xs i (g (get_or xs i d))) ≡ change f g y (take n xs)
    change_in g y l h =
        sym (change-at g y (take n xs) (omega (arith, seen_long l)) ∙ rw (← e, get_or-take) (sym (take-set-lt n xs i (g (get_or xs i d)) h)))

    pub change_out : (g : A → A) (y : A) → n < length xs → n ≤ i → take (n + 1) (set xs n y) ≡ change f g y (take n xs)
    change_out g y l h =
        rw (add-one, take-suc-set) (sym (change-end g y (take n xs) (omega (arith, seen_long (omega arith)))))

    -- a list that lacks what is looked for and is not full has room
    pub room : (top : ℕ) → n ≤ length xs → n ≤ i → pick (any_of f (take n xs)) false (leb top (length (take n xs))) ≡ false → n < top
    room top l h e = leb-false top n (rw (not_there l h, seen_long l) at e)

  -- ── keeping, counting up ──
  pub keep-more : (xs : List A) (i : ℕ) → i < length xs →
      keep f (take (suc i) xs) ≡ keep f (take i xs) ++ pick (f (get_or xs i d)) (get_or xs i d ∷ []) []
  unfolding keep
  keep-more [] i h = absurd (omega arith)
  keep-more (x ∷ xs) zero h = none_yet xs
    where
      none_yet : (l : List A) → pick (f x) (x ∷ keep f (take 0 l)) (keep f (take 0 l)) ≡ keep f [] ++ pick (f x) (x ∷ []) []
      none_yet [] = refl
      none_yet (z ∷ l) = refl
  keep-more (x ∷ xs) (suc i) h = go (f x) (keep-more xs i (omega arith))
    where
      m : List A
      m = pick (f (get_or xs i d)) (get_or xs i d ∷ []) []

      go : (b : Bool) → keep f (take (suc i) xs) ≡ keep f (take i xs) ++ m →
          pick b (x ∷ keep f (take (suc i) xs)) (keep f (take (suc i) xs)) ≡ pick b (x ∷ keep f (take i xs)) (keep f (take i xs)) ++ m
      go true k = ap (λ l. x ∷ l) k
      go false k = k

  pub keep-none : (xs : List A) → [] ≡ keep f (take 0 xs)
  unfolding keep
  keep-none [] = refl
  keep-none (x ∷ xs) = refl

  -- ── keeping, as the code does it: k written to ts so far, of the first j of xs ──
  module _ (ts xs : List A) (k j : ℕ) (e : take k ts ≡ keep f (take j xs)) where
    pub keep_yes : k < length ts → j < length xs → f (get_or xs j d) ≡ true → take (k + 1) (set ts k (get_or xs j d)) ≡ keep f (take (j + 1) xs)
    keep_yes l h g = rw (add-one, add-one, take-suc-set, keep-more xs j h, g, e)

    pub keep_no : j < length xs → f (get_or xs j d) ≡ false → take k ts ≡ keep f (take (j + 1) xs)
    keep_no h g = rw (add-one, keep-more xs j h, g, append-nil) e

-- ── a change leaves a list as long, or one longer ──
module _ {A : Type 0} (f : A → Bool) (g : A → A) (y : A) where
  pub change_longer : (xs : List A) → length xs ≤ length (change f g y xs)
  unfolding change
  change_longer [] = omega arith
  change_longer (x ∷ xs) = go (f x) (change_longer xs)
    where
      go : (b : Bool) → length xs ≤ length (change f g y xs) → suc (length xs) ≤ length (pick b (g x ∷ xs) (x ∷ change f g y xs))
      go true k = omega arith
      go false k = omega arith

  pub change_long : (xs : List A) → length (change f g y xs) ≤ suc (length xs)
  unfolding change
  change_long [] = omega arith
  change_long (x ∷ xs) = go (f x) (change_long xs)
    where
      go : (b : Bool) → length (change f g y xs) ≤ suc (length xs) → length (pick b (g x ∷ xs) (x ∷ change f g y xs)) ≤ suc (suc (length xs))
      go true k = omega arith
      go false k = omega arith

-- ── a test of each, counting up ──
module _ {A : Type 0} (f : A → Bool) (d : A) where
  pub every-none : (xs : List A) → all_of f (take 0 xs) ≡ true
  unfolding all_of
  every-none [] = refl
  every-none (x ∷ xs) = refl

  pub every_more : (xs : List A) (i : ℕ) → i < length xs → all_of f (take i xs) ≡ true → f (get_or xs i d) ≡ true → all_of f (take (suc i) xs) ≡ true
  unfolding all_of
  every_more xs i h e g = rw (take-suc xs i d h) (all_append f (take i xs) (get_or xs i d ∷ []) e (rw g))

  pub every_stop : (xs : List A) (i n : ℕ) → i < n → n ≤ length xs → f (get_or xs i d) ≡ false → all_of f (take n xs) ≡ false
  unfolding all_of
  every_stop [] i n h l g = absurd (omega arith)
  every_stop (x ∷ xs) i zero h l g = absurd (omega arith)
  every_stop (x ∷ xs) zero (suc n) h l g = rw g
  every_stop (x ∷ xs) (suc i) (suc n) h l g = go (f x) (every_stop xs i n (omega arith) (omega arith) g)
    where
      go : (b : Bool) → all_of f (take n xs) ≡ false → pick b (all_of f (take n xs)) false ≡ false
      go true k = k
      go false k = refl

  -- each of an array's first n passes
  pub each : (xs : List A) (n i : ℕ) → n ≤ length xs → i < n → all_of f (take n xs) ≡ true → f (get_or xs i d) ≡ true
  each xs n i l h e = go (f (get_or xs i d)) refl
    where
      go : (b : Bool) → f (get_or xs i d) ≡ b → b ≡ true
      go true q = refl
      go false q = absurd (true≢false (sym e ∙ every_stop xs i n h l q))

module _ {A : Type 0} (same : A → A → Bool) (d : A) where
  -- the i-th against those before it
  abbrev again : List A → ℕ → A → Bool
  again xs i y = same y (get_or xs i d)

  pub once_none : (xs : List A) → no_twice same (take 0 xs) ≡ true
  unfolding no_twice
  once_none [] = refl
  once_none (x ∷ xs) = refl

  pub once_more : (xs : List A) (i : ℕ) → i < length xs → no_twice same (take i xs) ≡ true → any_of (again xs i) (take i xs) ≡ false → no_twice same (take (suc i) xs) ≡ true
  once_more xs i h e g = rw (take-suc xs i d h) (once_append same (take i xs) (get_or xs i d) e g)

  any_in : (f : A → Bool) (xs : List A) (i n : ℕ) → i < n → n ≤ length xs → f (get_or xs i d) ≡ true → any_of f (take n xs) ≡ true
  unfolding any_of
  any_in f [] i n h l g = absurd (omega arith)
  any_in f (x ∷ xs) i zero h l g = absurd (omega arith)
  any_in f (x ∷ xs) zero (suc n) h l g = rw g
  any_in f (x ∷ xs) (suc i) (suc n) h l g = go (f x) (any_in f xs i n (omega arith) (omega arith) g)
    where
      go : (b : Bool) → any_of f (take n xs) ≡ true → pick b true (any_of f (take n xs)) ≡ true
      go true k = refl
      go false k = k

  pub once_stop : (xs : List A) (i n : ℕ) → i < n → n ≤ length xs → any_of (again xs i) (take i xs) ≡ true → no_twice same (take n xs) ≡ false
  unfolding no_twice any_of
  once_stop [] i n h l g = absurd (omega arith)
  once_stop (x ∷ xs) i zero h l g = absurd (omega arith)
  once_stop (x ∷ xs) zero (suc n) h l g = absurd (true≢false (sym g))
  once_stop (x ∷ xs) (suc i) (suc n) h l g = go (same x (get_or xs i d)) refl g (λ k. once_stop xs i n (omega arith) (omega arith) k)
    where
      end : (b : Bool) → no_twice same (take n xs) ≡ false → pick b false (no_twice same (take n xs)) ≡ false
      end true k = refl
      end false k = k

      go : (b : Bool) → same x (get_or xs i d) ≡ b → pick b true (any_of (again xs i) (take i xs)) ≡ true →
          (any_of (again xs i) (take i xs) ≡ true → no_twice same (take n xs) ≡ false) → pick (any_of (same x) (take n xs)) false (no_twice same (take n xs)) ≡ false
      go true q k ih = rw (any_in (same x) xs i n (omega arith) (omega arith) q)
      go false q k ih = end (any_of (same x) (take n xs)) (ih k)
