-- What a loop that counts up shows of `first` and `until`. Assumes nothing.
use Prim.Native.Nat.{ℕ, zero, suc, ◌+◌, ◌≤◌, ◌<◌}
use Rattle.std.proofs.Math.Path.{◌≡◌, refl, sym}
use Rattle.std.proofs.Common.{ap, ◌∙◌, subst, true≢false, le_antisymm, not-suc-le-zero, le_of_suc-le-suc, eq-or-lt_of_le, add-one}
use Rattle.std.specs.Prelude.{Bool, cond, None, Option, Some}
use Rattle.std.proofs.Math.Bool.{true, false}
use Rattle.std.proofs.Math.Dec.{ltb}
use borrow.Author.Tests.{ltb-true, ltb-false}
use Rattle.std.proofs.Math.Logic.{⊎_elim}
use native.Mathlib.Omega.{arith}
use Rattle.base.specs.First.{first, until, or_else, place_or}

module _ (p : ℕ → Bool) where
  pub first-none : first 0 p ≡ None
  unfolding first
  first-none = refl

  -- one more turn
  pub first_more : (i : ℕ) → first i p ≡ None → p i ≡ false → first (i + 1) p ≡ None
  unfolding first
  first_more i h q = rw (add-one, h, q)

  -- every turn was made
  pub first_done : (i n : ℕ) → i ≤ n → n ≤ i → first i p ≡ None → None ≡ first n p
  first_done i n a b h = subst (λ (m : ℕ). None ≡ first m p) (le_antisymm a b) (sym h)

  -- found at i
  pub first-hit : (n i : ℕ) → first i p ≡ None → p i ≡ true → i < n → Some i ≡ first n p
  unfolding first
  first-hit zero i h q l = absurd (not-suc-le-zero l)
  first-hit (suc n) i h q l =
      ⊎_elim
      (λ e. let h' : first n p ≡ None = rw e at h in let q' : p n ≡ true = rw e at q in rw (h', q') (ap Some e))
      (λ lt. rw (← first-hit n i h q lt))
      (eq-or-lt_of_le (le_of_suc-le-suc l))

  found_here : (n k : ℕ) (b : Bool) → p n ≡ b → cond b (Some n) None ≡ Some k → (k < suc n) × (p k ≡ true)
  found_here n k true q f = let m : n ≡ k = cc in (omega arith, rw m at q)
  found_here n k false q f = let z : ◌≡◌ {A = Bool} true false = cc in absurd (true≢false z)

  found_step : (n k : ℕ) (f : Option ℕ) → (f ≡ Some k → (k < n) × (p k ≡ true)) → or_else f (cond (p n) (Some n) None) ≡ Some k → (k < suc n) × (p k ≡ true)
  found_step n k (Some j) ih g = let w = ih g in (omega arith, w.1)
  found_step n k None ih g = found_here n k (p n) refl g

  -- what is found is below n, and p holds of it
  pub first-at : (n k : ℕ) → first n p ≡ Some k → (k < n) × (p k ≡ true)
  unfolding first
  first-at zero k e = let z : ◌≡◌ {A = Bool} true false = cc in absurd (true≢false z)
  first-at (suc n) k e = found_step n k (first n p) (first-at n k) e

  -- where nothing is found, p holds of none
  pub first_misses : (n k : ℕ) → first n p ≡ None → k < n → p k ≡ false
  unfolding first
  first_misses zero k h l = absurd (not-suc-le-zero l)
  first_misses (suc n) k h l =
      ⊎_elim (λ e. rw e (last (first n p) (p n) h)) (λ m. first_misses n k (early (first n p) (p n) h) m) (eq-or-lt_of_le (le_of_suc-le-suc l))
    where
      last : (f : Option ℕ) (b : Bool) → or_else f (cond b (Some n) None) ≡ None → b ≡ false
      last (Some j) b q = let z : ◌≡◌ {A = Bool} true false = cc in absurd (true≢false z)
      last None true q = let z : ◌≡◌ {A = Bool} true false = cc in absurd (true≢false z)
      last None false q = refl

      early : (f : Option ℕ) (b : Bool) → or_else f (cond b (Some n) None) ≡ None → f ≡ None
      early (Some j) b q = q
      early None b q = refl

  -- where p holds of none, nothing is found
  pub first_each : (n : ℕ) → ((k : ℕ) → k < n → p k ≡ false) → first n p ≡ None
  unfolding first
  first_each zero h = refl
  first_each (suc n) h = rw (first_each n (λ k l. h k (omega arith)), h n (omega arith))

  -- the first of which p holds is found
  pub first_is : (n i : ℕ) → i < n → ((k : ℕ) → k < i → p k ≡ false) → p i ≡ true → Some i ≡ first n p
  first_is n i l h q = first-hit n i (first_each i h) q l

  -- no more come before the first than there are
  pub until-le : (n : ℕ) → until n p ≤ n
  unfolding until
  until-le n = go (first n p) refl
    where
      go : (f : Option ℕ) → first n p ≡ f → place_or n f ≤ n
      go (Some k) e = omega (arith, (first-at n k e).0)
      go None e = omega arith

  -- a loop that has found none below i stands at the first
  pub until_here : (n i : ℕ) → first i p ≡ None → p i ≡ true → i < n → until n p ≡ i
  unfolding until
  until_here n i h q l = rw (← first-hit n i h q l)

  -- or at the end
  pub until-done : (i n : ℕ) → i ≤ n → n ≤ i → first i p ≡ None → until n p ≡ i
  unfolding until
  until-done i n a b h = rw (← first_done i n a b h) (le_antisymm b a)

  -- or before the first, where p holds of none up to i
  pub until-behind : (n i : ℕ) → i < n → ((k : ℕ) → k ≤ i → p k ≡ false) → i < until n p
  unfolding until
  until-behind n i l h = go (first n p) refl
    where
      below : (k : ℕ) (b : Bool) → ltb i k ≡ b → p k ≡ true → i < k
      below k true e q = ltb-true i k e
      below k false e q = let z : true ≡ false = sym q ∙ h k (ltb-false i k e) in absurd (true≢false z)

      go : (f : Option ℕ) → first n p ≡ f → i < place_or n f
      go (Some k) e = below k (ltb i k) refl (first-at n k e).1
      go None e = l

  -- as a loop knows it
  pub until_on : (n i : ℕ) → i < n → first i p ≡ None → p i ≡ false → i < until n p
  until_on n i l h q = until-behind n i l (λ k m. ⊎_elim (λ e. rw e q) (first_misses i k h) (eq-or-lt_of_le m))

-- questions that agree below n have one answer
pub first_cong : (p q : ℕ → Bool) (n : ℕ) → ((k : ℕ) → k < n → p k ≡ q k) → first n p ≡ first n q
unfolding first
first_cong p q zero h = refl
first_cong p q (suc n) h = rw (first_cong p q n (λ k l. h k (omega arith)), h n (omega arith))
