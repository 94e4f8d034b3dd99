-- What the tests of a session's shape share. Assumes nothing.
use mathlib.Core.Path.{◌≡◌, refl, sym, ◌∙◌, ap}
use mathlib.Core.Bool.{Bool, true, false, ◌&&◌, not}
use mathlib.Core.List.{List, [], ◌∷◌, ◌++◌}
use Prim.Native.Nat.{ℕ, zero, suc, ◌≤◌}
use native.Mathlib.Omega.{arith}
use lib.ListN.{length, take, get_or}
use lib.Seq.{length-take-le, take-suc, take_all}
use lib.Dec.{ltb}
use borrow.Author.Tests.{le-leb, ltb-true, ltb-false}
use Rattle.std.specs.Prelude.{cond, position, is_some, slice_get, Some, None}
use Rattle.std.specs.Option.{option_map, unwrap_or}
use Rattle.std.proofs.lemmas.Option.{slice_get-get_or}
use Rattle.std.specs.List.{list_all, list_any}
use Rattle.base.specs.Choice.{pick}
use Rattle.base.specs.Range.{all, every}
use Rattle.base.specs.Keyed.{at, any_of, all_of, no_twice}
use Rattle.base.proofs.RangeLaws.{all_cong}
use Rattle.base.proofs.KeyedLaws.{once_none, any_yes, any_no}
use Rattle.base.proofs.StdLaws.{list_all-all_of, list_any-any_of, position-at}
use Rattle.base.proofs.Pigeon.{left_of_lem, right_of}
use Rattle.base.proofs.BesideLaws.{beside-all, beside_once}
use Rattle.session.specs.Session.{turn_at, is_encoder, same_turn}
use Rattle.session.specs.declared.Turns.{Turns}
use Rattle.definition.specs.Faders.{in_range}
use Rattle.definition.specs.Shape.{good_turn, same_wire, shaped_turns}

-- an iterator's `all` in the definitions' word
pub all_by_list : {A : Type 0} (p : A → Bool) (xs : List A) → list_all p xs ≡ all_of p xs
all_by_list p xs = list_all-all_of p xs

any-last : {A : Type 0} (f : A → Bool) (xs : List A) (y : A) → any_of f (xs ++ (y ∷ [])) ≡ pick (any_of f xs) true (f y)
unfolding any_of
any-last f [] y = go (f y)
  where
    go : (b : Bool) → pick b true false ≡ b
    go true = refl
    go false = refl
any-last f (x ∷ xs) y = go (f x) (any-last f xs y)
  where
    go : (b : Bool) → any_of f (xs ++ (y ∷ [])) ≡ pick (any_of f xs) true (f y) → pick b true (any_of f (xs ++ (y ∷ []))) ≡ pick (pick b true (any_of f xs)) true (f y)
    go true e = refl
    go false e = e

-- ── none twice: the code holds the i-th against each before it ──
module _ {A : Type 0} (same : A → A → Bool) (d : A) where
  once-last : (xs : List A) (y : A) → no_twice same (xs ++ (y ∷ [])) ≡ (no_twice same xs && not (any_of (λ z. same z y) xs))
  unfolding no_twice any_of
  once-last [] y = refl
  once-last (x ∷ xs) y = rw (any-last (same x) xs y, once-last xs y) (go (any_of (same x) xs) (same x y) (no_twice same xs) (any_of (λ z. same z y) xs))
    where
      go : (a b c e : Bool) → pick (pick a true b) false (c && not e) ≡ (pick a false c && not (pick b true e))
      go true b c e = refl
      go false true true true = refl
      go false true true false = refl
      go false true false e = refl
      go false false c e = refl

  -- the i-th is the same as none before it
  abbrev pub New : List A → ℕ → Bool
  New xs i = not (list_any (λ z. same z (get_or xs i d)) (take i xs))

  once-up-to : (xs : List A) (n : ℕ) → n ≤ length xs → all n (New xs) ≡ no_twice same (take n xs)
  unfolding all
  once-up-to xs zero l = sym (once_none same d xs)
  once-up-to xs (suc n) l =
      rw (once-up-to xs n (omega arith), list_any-any_of (λ z. same z (get_or xs n d)) (take n xs), take-suc xs n d (omega arith))
      (sym (once-last (take n xs) (get_or xs n d)))

  pub each-new : (xs : List A) → all (length xs) (New xs) ≡ no_twice same xs
  each-new xs = once-up-to xs (length xs) (omega arith) ∙ ap (no_twice same) (take_all (length xs) xs (omega arith))

-- the same without a default, for a list of any type
module _ {A : Type 0} (same : A → A → Bool) where
  abbrev pub New-in : List A → ℕ → Bool
  New-in xs i = not (unwrap_or (option_map (λ x. list_any (λ z. same z x) (take i xs)) (slice_get xs i)) false)

  pub each-new-in : (xs : List A) → all (length xs) (New-in xs) ≡ no_twice same xs
  unfolding all no_twice
  each-new-in [] = refl
  each-new-in (x ∷ xs) =
      all_cong (New-in (x ∷ xs)) (New same x (x ∷ xs)) (length (x ∷ xs)) (λ k l. rw (slice_get-get_or (x ∷ xs) k x l) refl) ∙ each-new same x (x ∷ xs)

-- what each passes, each of the first n passes
pub all-take : {A : Type 0} (f : A → Bool) (xs : List A) (n : ℕ) → all_of f xs ≡ true → all_of f (take n xs) ≡ true
unfolding all_of
all-take f [] zero e = refl
all-take f [] (suc n) e = refl
all-take f (x ∷ xs) zero e = refl
all-take f (x ∷ xs) (suc n) e = rw (left_of_lem (f x) (all_of f xs) e) (all-take f xs n (right_of (f x) (all_of f xs) e))

-- a search that finds none
pub none-found : {A : Type 0} (f : A → Bool) (xs : List A) → not (is_some (position f xs)) ≡ not (list_any f xs)
none-found f [] = refl
none-found f (x ∷ xs) = rw (position-at f (x ∷ xs), list_any-any_of f (x ∷ xs)) (go (ltb (at f (x ∷ xs)) (length (x ∷ xs))) refl)
  where
    go : (b : Bool) → ltb (at f (x ∷ xs)) (length (x ∷ xs)) ≡ b → not (is_some (cond b (Some (at f (x ∷ xs))) None)) ≡ not (any_of f (x ∷ xs))
    go true q = rw (any_yes f x (x ∷ xs) (ltb-true _ _ q))
    go false q = rw (any_no f x (x ∷ xs) (ltb-false _ _ q))

-- the sums, of which the code tests the numbers by themselves and the records by themselves
pub sums_tested : (p : List ℕ) (t : Turns) (x y : Bool) → length t.records ≡ 136 → length t.sums ≡ 136 → t.count ≤ 136 →
    all_of (is_encoder p) (take t.count t.records) ≡ true → x ≡ all_of in_range (take t.count t.sums) →
    y ≡ no_twice (same_wire p) (take t.count t.records) → (x && y) ≡ shaped_turns p t
unfolding shaped_turns every
sums_tested p t x y lk ln h e f g =
    let ks = take t.count t.records in
    let ns = take t.count t.sums in
    let a : length ks ≡ t.count = length-take-le t.count t.records (omega arith) in
    let b : length ns ≡ t.count = length-take-le t.count t.sums (omega arith) in
    rw (
      le-leb t.count 136 h,
      e,
      beside-all (turn_at p) good_turn in_range (λ k n. refl) ks ns (omega arith),
      beside_once (turn_at p) same_turn (same_wire p) (λ j k m n. refl) ks ns (omega arith),
      f,
      g,
    )
