-- The loop of `most_common`: its invariant, and a law for each way through a turn. Assumes nothing.
use Rattle.std.specs.Prelude.{ℕ, ◌+◌, ◌≤◌, ◌<◌, ◌≡◌, ◌⊎◌, refl, List, true, false, length, get_or, eqb}
use Rattle.std.proofs.Math.Path.{sym, ap}
use Rattle.std.proofs.Common.{◌∙◌, ⊎_elim, inr, eq-or-lt_of_le, arith}
use Rattle.std.proofs.Math.Dec.{leb}
use borrow.Author.Tests.{le-leb, lt-leb, eq-eqb}
use Rattle.base.proofs.RangeLaws.{all_each, all_stop}
use Rattle.base.proofs.FirstLaws.{first-none, first_is}
use Rattle.profile.proofs.RangeMore.{count-lt}
use Rattle.lookup.specs.Lookup.{times, top_at, value_at, most_common}

-- how often the one at j is there
abbrev pub times_at : List ℕ → ℕ → ℕ
times_at l j = times (get_or l j 0) l

-- of the first i, `best`, at p, is the first of the most frequent, and it is there `often`
pub record Best (l : List ℕ) (i best often : ℕ) : Type 0 where
  pub p : ℕ
  pub before : p < i
  pub is : best ≡ get_or l p 0
  pub counted : often ≡ times_at l p
  pub most : (j : ℕ) → j < i → times_at l j ≤ often
  pub earlier : (j : ℕ) → j < p → times_at l j < often

-- or there is none yet
abbrev pub Leads : List ℕ → ℕ → ℕ → ℕ → Type 0
Leads l i best often = ((i ≡ 0) × (best ≡ 65535) × (often ≡ 0)) ⊎ Best l i best often

-- the one at i is there, and so it is counted
counted_once : (l : List ℕ) (i : ℕ) → i < length l → 0 < times_at l i
unfolding times
counted_once l i h = omega (arith, count-lt (λ k. eqb (get_or l k 0) (get_or l i 0)) i (length l) h (eq-eqb (get_or l i 0) (get_or l i 0) refl))

module _ (l : List ℕ) (i best often : ℕ) (leads : Leads l i best often) (m : ℕ) (h : m ≡ times_at l i) where
  below : (j : ℕ) → j < i → times_at l j ≤ often
  below j n = ⊎_elim (λ w. absurd (omega arith)) (λ b. b.most j n) leads

  up_to : (top : ℕ) → often ≤ top → m ≤ top → (j : ℕ) → j < i + 1 → times_at l j ≤ top
  up_to top p q j n = ⊎_elim (λ z. let w : j ≡ i = omega arith in rw (w, ← h) q) (λ n'. omega (arith, below j (omega arith))) (eq-or-lt_of_le n)

  pub leads_keep : i < length l → m ≤ often → Leads l (i + 1) best often
  leads_keep there q =
      ⊎_elim
      (λ w. absurd (omega (arith, counted_once l i there)))
      (λ b. inr (record { p = b.p; before = omega (arith, b.before); is = b.is; counted = b.counted; most = up_to often (omega arith) q; earlier = b.earlier }))
      leads

  pub leads_new : (x : ℕ) → x ≡ get_or l i 0 → often < m → Leads l (i + 1) x m
  leads_new x e q =
      inr (record { p = i; before = omega arith; is = e; counted = h; most = up_to m (omega arith) (omega arith); earlier = λ j n. omega (arith, below j n) })

module _ (l : List ℕ) (i best often : ℕ) (b : Best l i best often) (end : i ≡ length l) where
  top : top_at l b.p ≡ true
  unfolding top_at
  top = all_each (λ j. leb (times_at l j) (times_at l b.p)) (length l) (λ j n. le-leb (times_at l j) (times_at l b.p) (omega (arith, b.most j (omega arith), b.counted)))

  not_top : (j : ℕ) → j < b.p → top_at l j ≡ false
  unfolding top_at
  not_top j n =
      sym (all_stop (λ k. leb (times_at l k) (times_at l j)) (length l) b.p (omega (arith, b.before))
      (lt-leb (times_at l b.p) (times_at l j) (omega (arith, b.earlier j n, b.counted))))

  best_done : best ≡ most_common l
  unfolding most_common
  best_done = b.is ∙ ap (value_at l) (first_is (top_at l) (length l) b.p (omega (arith, b.before)) not_top top)

none_common : (l : List ℕ) → length l ≡ 0 → 65535 ≡ most_common l
unfolding most_common
none_common l e = rw (e, first-none (top_at l))

pub leads_done : (l : List ℕ) (i best often : ℕ) → Leads l i best often → i ≡ length l → best ≡ most_common l
leads_done l i best often leads end = ⊎_elim (λ w. w.1 ∙ none_common l (sym end ∙ w.0)) (λ b. best_done l i best often b end) leads
