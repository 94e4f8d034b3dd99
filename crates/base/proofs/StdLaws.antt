-- What std's words on lists, which an iterator's methods ensure, are in the words of Keyed, Range and First: of a list, of the first n of a list, and of
-- the numbers below n, which std lists as `range_with_len 0 n`. Assumes nothing.
use Rattle.std.specs.Prelude.{◌≡◌, Bool, true, false, cond, not, get_or, take, find, position, count_by, unwrap_or, ltb, None, Some, Option, ◌&&◌, ◌||◌}
use Rattle.std.specs.List.{list_all, list_any, position_or_len, range_with_len, slice_get}
use Rattle.std.proofs.Math.Path.{refl, ap}
use Rattle.std.proofs.Common.{sym, ◌∙◌, add-one, add-zero, take_all, ltb-true, ltb-false, length, arith}
use Rattle.std.proofs.lemmas.List.Folds.{list_all_more, find_at}
use Rattle.std.proofs.lemmas.List.Sums.{length-filter, count_by_more_yes, count_by_more_no, fails_before_first, passes_at_first}
use Rattle.std.proofs.lemmas.List.FromFn.{length-range_with_len, get_or-range_with_len}
use Rattle.std.proofs.lemmas.Option.{slice_get-get_or, slice_get_past}
use Rattle.std.proofs.lemmas.Iterator.{YieldsList-from_range}
use Rattle.std.proofs.lemmas.Iterator.Search.{all_from_yields_List, find_from_yields_List}
use Rattle.std.proofs.lemmas.Iterator.Consumers.{count_from_yields_List, YieldsList-from_filter}
use Rattle.std.proofs.lemmas.Iterator.Adapters.{option_map_id}
use Rattle.std.proofs.iter.Yields.{nat_range_steps}
use Rattle.std.specs.Bool.{⊤}
use Rattle.std.specs.Fn.{Called, CalledAt}
use Rattle.std.specs.Iterator.{ChecksAll, FindsItem, Drains}
use Rattle.std.specs.Iterator.Adapters.{filter_source, filter_callee, filter_steps}
use Rattle.std.specs.declared.ops.Range.{Range}
use Rattle.std.specs.declared.iter.Filter.{Filter}
use denote.Param.Members.{Mut}
use denote.Ref.{Bor}
use mathlib.Core.List.{List, [], ◌∷◌}
use Prim.Native.Nat.{ℕ, zero, suc, ◌+◌, ◌≤◌, ◌<◌}
use Rattle.base.specs.Choice.{pick}
use Rattle.base.specs.Keyed.{at, any_of, all_of, find as find_of}
use Rattle.base.specs.Range.{all, count, bit}
use Rattle.base.proofs.RangeLaws.{all_cong, count_cong}
use Rattle.base.specs.First.{first}
use Rattle.base.proofs.FirstLaws.{first_each, first_is, first_cong}

-- ── the words of Keyed ──
cond-pick : {B : Type 0} (b : Bool) (x y : B) → cond b x y ≡ pick b x y
cond-pick true x y = refl
cond-pick false x y = refl

and-pick : (b c : Bool) → (b && c) ≡ pick b c false
and-pick true c = refl
and-pick false c = refl

or-pick : (b c : Bool) → (b || c) ≡ pick b true c
or-pick true c = refl
or-pick false c = refl

not-pick : (b : Bool) (n : ℕ) → cond (not b) (1 + n) 0 ≡ pick b 0 (suc n)
not-pick true n = refl
not-pick false n = omega arith

module _ {A : Type 0} (p : A → Bool) where
  pub list_all-all_of : (xs : List A) → list_all p xs ≡ all_of p xs
  unfolding all_of
  list_all-all_of [] = refl
  list_all-all_of (x ∷ xs) = rw (list_all-all_of xs) (and-pick (p x) (all_of p xs))

  pub list_any-any_of : (xs : List A) → list_any p xs ≡ any_of p xs
  unfolding any_of
  list_any-any_of [] = refl
  list_any-any_of (x ∷ xs) = rw (list_any-any_of xs) (or-pick (p x) (any_of p xs))

  -- std's `find` and Keyed's
  pub find-find : (xs : List A) → find p xs ≡ find_of p xs
  unfolding find_of
  find-find [] = refl
  find-find (x ∷ xs) = rw (find-find xs) (cond-pick (p x) _ _)

  pub position_or_len-at : (xs : List A) → position_or_len p xs ≡ at p xs
  unfolding at
  position_or_len-at [] = refl
  position_or_len-at (x ∷ xs) = rw (position_or_len-at xs) (not-pick (p x) (at p xs))

  pub position-at : (xs : List A) → position p xs ≡ cond (ltb (at p xs) (length xs)) (Some (at p xs)) None
  position-at xs = rw (position_or_len-at xs)

  pub at-le : (xs : List A) → at p xs ≤ length xs
  unfolding at
  at-le [] = omega arith
  at-le (x ∷ xs) = more (p x) (at-le xs)
    where
      more : (b : Bool) → at p xs ≤ length xs → pick b 0 (suc (at p xs)) ≤ suc (length xs)
      more true l = omega arith
      more false l = omega arith

  -- `xs.iter().position(f).unwrap_or(xs.len())`
  pub unwrap_or-position : (xs : List A) → unwrap_or (position p xs) (length xs) ≡ at p xs
  unwrap_or-position xs = rw (position-at xs) (found (ltb (at p xs) (length xs)) refl)
    where
      found : (b : Bool) → ltb (at p xs) (length xs) ≡ b → unwrap_or (cond b (Some (at p xs)) None) (length xs) ≡ at p xs
      found true e = refl
      found false e = omega (arith, ltb-false _ _ e, at-le xs)

-- ── the words of Range and First, of the first n of a list ──
module _ {A : Type 0} (p : A → Bool) (d : A) where
  pub list_all-all-take : (xs : List A) (n : ℕ) → n ≤ length xs → list_all p (take n xs) ≡ all n (λ k. p (get_or xs k d))
  unfolding all
  list_all-all-take xs zero l = refl
  list_all-all-take xs (suc n) l =
      let e : list_all p (take (suc n) xs) ≡ (list_all p (take n xs) && p (get_or xs n d)) = rw add-one at (list_all_more p xs n d (omega arith)) in
      e ∙ rw (list_all-all-take xs n (omega arith))

  pub count_by-count-take : (xs : List A) (n : ℕ) → n ≤ length xs → count_by p (take n xs) ≡ count n (λ k. p (get_or xs k d))
  unfolding count
  count_by-count-take xs zero l = refl
  count_by-count-take xs (suc n) l = more (p (get_or xs n d)) refl (count_by-count-take xs n (omega arith))
    where
      more : (b : Bool) → p (get_or xs n d) ≡ b → count_by p (take n xs) ≡ count n (λ k. p (get_or xs k d)) →
          count_by p (take (suc n) xs) ≡ count n (λ k. p (get_or xs k d)) + bit b
      more true e h = let f : count_by p (take (suc n) xs) ≡ count_by p (take n xs) + 1 = rw add-one at (count_by_more_yes p xs n d (omega arith) e) in rw (f, h)
      more false e h = let f : count_by p (take (suc n) xs) ≡ count_by p (take n xs) = rw add-one at (count_by_more_no p xs n d (omega arith) e) in rw (f, h, add-zero)

  -- of the whole list
  pub list_all-all : (xs : List A) → list_all p xs ≡ all (length xs) (λ k. p (get_or xs k d))
  list_all-all xs = ap (list_all p) (sym (take_all (length xs) xs (omega arith))) ∙ list_all-all-take xs (length xs) (omega arith)

  pub count_by-count : (xs : List A) → count_by p xs ≡ count (length xs) (λ k. p (get_or xs k d))
  count_by-count xs = ap (count_by p) (sym (take_all (length xs) xs (omega arith))) ∙ count_by-count-take xs (length xs) (omega arith)

  pub position-first : (xs : List A) → position p xs ≡ first (length xs) (λ k. p (get_or xs k d))
  position-first xs = found (ltb (position_or_len p xs) (length xs)) refl
    where
      found : (b : Bool) → ltb (position_or_len p xs) (length xs) ≡ b → cond b (Some (position_or_len p xs)) None ≡ first (length xs) (λ k. p (get_or xs k d))
      found true e =
          first_is (λ k. p (get_or xs k d)) (length xs) (position_or_len p xs) (ltb-true _ _ e)
          (λ k l. fails_before_first p xs k d l) (passes_at_first p xs d (ltb-true _ _ e))
      found false e =
          sym (first_each (λ k. p (get_or xs k d)) (length xs) (λ k l. fails_before_first p xs k d (omega (arith, ltb-false _ _ e))))

-- ── the numbers below n, as `(0..n)` gives them ──
nth : (n k : ℕ) → k < n → get_or (range_with_len 0 n) k 0 ≡ k
nth n k l = get_or-range_with_len 0 n k 0 l ∙ omega arith

module _ (p : ℕ → Bool) where
  pub list_all-range : (n : ℕ) → list_all p (range_with_len 0 n) ≡ all n p
  list_all-range n =
      list_all-all p 0 (range_with_len 0 n)
      ∙ rw (length-range_with_len 0 n) (all_cong _ _ n (λ k l. ap p (nth n k l)))

  pub count_by-range : (n : ℕ) → count_by p (range_with_len 0 n) ≡ count n p
  count_by-range n =
      count_by-count p 0 (range_with_len 0 n)
      ∙ rw (length-range_with_len 0 n) (count_cong _ _ n (λ k l. ap p (nth n k l)))

  pub position-range : (n : ℕ) → position p (range_with_len 0 n) ≡ first n p
  position-range n =
      position-first p 0 (range_with_len 0 n)
      ∙ rw (length-range_with_len 0 n) (first_cong _ _ n (λ k l. ap p (nth n k l)))

  -- what is found is its own place
  find-position : (n : ℕ) → find p (range_with_len 0 n) ≡ position p (range_with_len 0 n)
  find-position n =
      let long : length (range_with_len 0 n) ≡ n = length-range_with_len 0 n in
      find_at p (range_with_len 0 n) ∙ found (ltb (position_or_len p (range_with_len 0 n)) (length (range_with_len 0 n))) refl long
    where
      found : (b : Bool) → ltb (position_or_len p (range_with_len 0 n)) (length (range_with_len 0 n)) ≡ b → length (range_with_len 0 n) ≡ n →
          slice_get (range_with_len 0 n) (position_or_len p (range_with_len 0 n)) ≡ cond b (Some (position_or_len p (range_with_len 0 n))) None
      found true e long =
          slice_get-get_or (range_with_len 0 n) _ 0 (ltb-true _ _ e) ∙ ap Some (nth n _ (omega (arith, ltb-true _ _ e, long)))
      found false e long = slice_get_past (range_with_len 0 n) _ (ltb-false _ _ e)

  pub find-range : (n : ℕ) → find p (range_with_len 0 n) ≡ first n p
  find-range n = find-position n ∙ position-range n

-- ── what the calls over `0..n` return ──
-- From the call's clause `ran`, from where the range starts and ends, and from what the closure computes, which `λ x b q k. search (rules, tests)` proves.

-- the closure f gives p of a number, or of what a reference to one lends, and stays as it was
abbrev pub Computes : {F : Type 0} → (ℕ → Bool) → Mut F (ℕ × ⊤) Bool → F → Type 0
Computes {F} p g f = (x : ℕ) (b : Bool) (q : F) → Called g f (x, tt) b q → (q ≡ f) × (b ≡ p x)

abbrev pub ComputesAt : {F : Type 0} → (ℕ → Bool) → Mut F (Bor ℕ × ⊤) Bool → F → Type 0
ComputesAt {F} p g f = (x : ℕ) (b : Bool) (q : F) → CalledAt g f x b q → (q ≡ f) × (b ≡ p x)

module _ {F : Type 0} {s u : Range ℕ} {f : F} (p : ℕ → Bool) (n : ℕ) where
  pub all_below : {g : Mut F (ℕ × ⊤) Bool} {r : Bool} → ChecksAll nat_range_steps g s f r u → s ≡ record { start = 0; end = n } → Computes p g f → r ≡ all n p
  all_below ran e h = all_from_yields_List p u f _ ran (YieldsList-from_range 0 n n e (omega arith)) h ∙ list_all-range p n

-- the second `_` of a call is the range that is left
pub find_below : {F : Type 0} {s : Range ℕ} {f : F} (p : ℕ → Bool) (n : ℕ) {g : Mut F (Bor ℕ × ⊤) Bool} (r : Option ℕ) (u : Range ℕ) →
    FindsItem nat_range_steps g s f r u → s ≡ record { start = 0; end = n } → ComputesAt p g f → r ≡ first n p
find_below {f = f} p n r u ran e h =
    sym (option_map_id r) ∙ find_from_yields_List p u f r ran (YieldsList-from_range 0 n n e (omega arith)) h ∙ find-range p n

-- `(0..n).filter(f).count()`
pub count_below : {F : Type 0} {s : Filter (Range ℕ) F} {f : F} (p : ℕ → Bool) (n : ℕ) {g : Mut F (Bor ℕ × ⊤) Bool} {r : ℕ} →
    (xs : List ℕ) × Drains (filter_steps nat_range_steps g) s xs × (r ≡ length xs) → filter_source s ≡ record { start = 0; end = n } → filter_callee s ≡ f →
    ComputesAt p g f → r ≡ count n p
count_below {s = s} p n {g = g} ran e c h =
    count_from_yields_List s _ ran (YieldsList-from_filter g p (YieldsList-from_range 0 n n e (omega arith)) c h)
    ∙ length-filter p (range_with_len 0 n)
    ∙ count_by-range p n
