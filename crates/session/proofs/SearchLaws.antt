-- What a search by the library among the first n of an array found, in the words of Keyed. Assumes nothing.
use Rattle.std.specs.Prelude.{◌≡◌, Bool, length, take, cond, unwrap_or, position, ltb, None, Some}
use Rattle.std.proofs.Math.Path.{refl, ap}
use Rattle.std.proofs.Common.{sym, ◌∙◌, arith, length-take-le, ltb-true, ltb-false}
use Rattle.std.proofs.Math.Bool.{true, false}
use mathlib.Core.List.{List}
use Prim.Native.Nat.{ℕ, ◌<◌, ◌≤◌}
use Rattle.base.specs.Keyed.{at}
use Rattle.base.proofs.StdLaws.{position-at, at-le, unwrap_or-position}

module _ {A : Type 0} (f : A → Bool) where
  found : (xs : List A) (i : ℕ) → position f xs ≡ Some i → (i ≡ at f xs) × (i < length xs)
  found xs i e = go (ltb (at f xs) (length xs)) refl (sym (position-at f xs) ∙ e)
    where
      go : (b : Bool) → ltb (at f xs) (length xs) ≡ b → cond b (Some (at f xs)) None ≡ Some i → (i ≡ at f xs) × (i < length xs)
      go true q r = let h : i ≡ at f xs = cc in (h, omega (arith, ltb-true (at f xs) (length xs) q))
      go false q r = cc

  missing : (xs : List A) → position f xs ≡ None → length xs ≤ at f xs
  missing xs e = go (ltb (at f xs) (length xs)) refl (sym (position-at f xs) ∙ e)
    where
      go : (b : Bool) → ltb (at f xs) (length xs) ≡ b → cond b (Some (at f xs)) None ≡ None → length xs ≤ at f xs
      go true q r = cc
      go false q r = ltb-false (at f xs) (length xs) q

  -- the place that was found
  pub place-in : (xs : List A) (n i : ℕ) → n ≤ length xs → position f (take n xs) ≡ Some i → (i ≡ at f (take n xs)) × (i < n)
  place-in xs n i h e =
      let p = found (take n xs) i e in
      let l : length (take n xs) ≡ n = length-take-le n xs h in
      (p.0, omega arith)

  -- none was: a new one stands behind
  pub no-place-in : (xs : List A) (n : ℕ) → n ≤ length xs → position f (take n xs) ≡ None → n ≡ at f (take n xs)
  no-place-in xs n h e =
      let l : length (take n xs) ≡ n = length-take-le n xs h in
      let a = missing (take n xs) e in
      omega (arith, at-le f (take n xs))

  -- either
  pub place-or-end : (xs : List A) (n : ℕ) → n ≤ length xs → unwrap_or (position f (take n xs)) n ≡ at f (take n xs)
  place-or-end xs n h =
      ap (λ m. unwrap_or (position f (take n xs)) m) (sym (length-take-le n xs h)) ∙ unwrap_or-position f (take n xs)
