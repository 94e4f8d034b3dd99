-- More of `all` and `count`: a loop that keeps the answer so far, and what a count says of the numbers counted. Assumes nothing.
use Prim.Native.Nat.{ℕ, zero, suc, ◌+◌, ◌≤◌, ◌<◌}
use Rattle.std.specs.Prelude.{◌≡◌, Bool, ◌&&◌}
use Rattle.std.proofs.Math.Path.{refl}
use Rattle.std.proofs.Common.{ap, ◌∙◌, le_antisymm, eq-or-lt_of_le}
use Rattle.std.proofs.Math.Bool.{true, false}
use Rattle.std.proofs.Math.Logic.{⊎_elim}
use Rattle.std.proofs.Math.Numerals.{add-one}
use native.Mathlib.Omega.{arith}
use Rattle.base.specs.Range.{all, count, bit}
use Rattle.base.proofs.RangeLaws.{count-more}

module _ (p : ℕ → Bool) where
  pub all-next : (i : ℕ) → all (i + 1) p ≡ (all i p && p i)
  unfolding all
  all-next i = rw add-one

  pub all_end : (i n : ℕ) → i ≤ n → n ≤ i → all i p ≡ all n p
  all_end i n a b = ap (λ (m : ℕ). all m p) (le_antisymm a b)

  -- if each that is counted has fewer than top before it, they are at most top
  pub count-below : (top n : ℕ) → ((k : ℕ) → k < n → p k ≡ true → count k p < top) → count n p ≤ top
  unfolding count
  count-below top zero h = omega arith
  count-below top (suc n) h = go (p n) refl (count-below top n (λ k l. h k (omega arith)))
    where
      go : (b : Bool) → p n ≡ b → count n p ≤ top → count n p + bit (p n) ≤ top
      go true e ih = rw e (let q = h n (omega arith) e in omega arith)
      go false e ih = rw e (omega arith)

  -- every number below the count is how many come before one of them
  pub count-reach : (m n : ℕ) → m < count n p → (k : ℕ) × (k < n) × (p k ≡ true) × (count k p ≡ m)
  unfolding count
  count-reach m zero l = absurd (omega arith)
  count-reach m (suc n) l = go (p n) refl l (count-reach m n)
    where
      go : (b : Bool) → p n ≡ b → m < count n p + bit (p n) → (m < count n p → (k : ℕ) × (k < n) × (p k ≡ true) × (count k p ≡ m)) →
          (k : ℕ) × (k < suc n) × (p k ≡ true) × (count k p ≡ m)
      go true e l ih =
          let h : m < count n p + 1 = rw e at l in
          ⊎_elim (λ q. (n, omega arith, e, omega arith)) (λ q. let w = ih (omega arith) in (w.0, omega arith, w.2, w.3)) (eq-or-lt_of_le h)
      go false e l ih = let h : m < count n p + 0 = rw e at l in let w = ih (omega arith) in (w.0, omega arith, w.2, w.3)

  pub count_mono : (i n : ℕ) → i ≤ n → count i p ≤ count n p
  unfolding count
  count_mono i zero h = rw (le_antisymm h (omega arith)) (omega arith)
  count_mono i (suc n) h =
      ⊎_elim (λ e. rw e (omega arith)) (λ l. omega (arith, count_mono i n (omega arith))) (eq-or-lt_of_le h)

  -- one that is counted has fewer before it than there are in all
  pub count-lt : (k n : ℕ) → k < n → p k ≡ true → count k p < count n p
  count-lt k n l e =
      let h : count (k + 1) p ≡ count k p + 1 = count-more p k ∙ rw e in
      omega (arith, count_mono (k + 1) n (omega arith))
