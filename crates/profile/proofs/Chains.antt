-- What a chain over the records, or over a part of a table, says in the words of `Range`. Assumes nothing.
use Rattle.std.proofs.Common.{ℕ, zero, suc, ◌+◌, ◌-◌, ◌≤◌, ◌<◌, ◌≡◌, refl, ap, ◌∙◌, List, ◌∷◌, Bool, true, false, ◌&&◌, length, get_or, take, drop, add-one, arith, length-drop, get_or-drop}
use Rattle.std.specs.List.{range_with_len, list_all, fold, prefix_len}
use Rattle.std.proofs.lemmas.List.FromFn.{length-range_with_len, get_or-range_with_len}
use Rattle.std.proofs.lemmas.List.Folds.{length-prefix_len}
use Rattle.std.proofs.lemmas.List.Sums.{fold_more, prefix_len-le-length, prefix_len_passes, prefix_len_stops}
use Rattle.base.specs.Range.{all}
use Rattle.base.proofs.RangeLaws.{all_each}
use Rattle.base.proofs.StdLaws.{list_all-range}

take-range : (a n k : ℕ) → k ≤ n → take k (range_with_len a n) ≡ range_with_len a k
take-range a n zero h = refl
take-range a zero (suc k) h = absurd (omega arith)
take-range a (suc n) (suc k) h = ap (λ l. a ∷ l) (take-range (a + 1) n k (omega arith))

at-range : (n k : ℕ) → k < n → get_or (range_with_len 0 n) k 0 ≡ k
at-range n k l = omega (arith, get_or-range_with_len 0 n k 0 l)

module _ (p : ℕ → Bool) where
  fold-front : (s : List ℕ) (from n : ℕ) → from + n ≤ length s → fold (λ ok x. ok && p x) true (take n (drop from s)) ≡ all n (λ j. p (get_or s (from + j) 0))
  unfolding all
  fold-front s from zero h = refl
  fold-front s from (suc n) h =
      let more = fold_more (λ ok x. ok && p x) true (drop from s) n 0 (omega (arith, length-drop from s)) in
      rw (← add-one, more, fold-front s from n (omega arith), get_or-drop)

  -- a `fold` over a part of s that joins all tests
  pub fold-all : (s : List ℕ) (from n : ℕ) → from + n ≤ length s → fold (λ ok x. ok && p x) true (take (from + n - from) (drop from s)) ≡ all n (λ j. p (get_or s (from + j) 0))
  fold-all s from n h = let e : from + n - from ≡ n = omega arith in rw e (fold-front s from n h)

  -- how many numbers come before the first below n at which p fails: those that `take_while` gives of `0..n`
  abbrev pub front : ℕ → ℕ
  front n = prefix_len p (range_with_len 0 n)

  module _ (n : ℕ) where
    pub front-le : front n ≤ n
    front-le = omega (arith, prefix_len-le-length p (range_with_len 0 n), length-range_with_len 0 n)

    pub length-front : length (take (front n) (range_with_len 0 n)) ≡ front n
    length-front = length-prefix_len p (range_with_len 0 n)

    pub front_all : all (front n) p ≡ true
    front_all = all_each p (front n) (λ k l. rw (at-range n k (omega (arith, front-le))) at (prefix_len_passes p (range_with_len 0 n) k 0 l))

    pub front_stops : front n < n → p (front n) ≡ false
    front_stops l = rw (at-range n (front n) l) at (prefix_len_stops p (range_with_len 0 n) 0 (omega (arith, length-range_with_len 0 n)))

  pub list_all-front : (n : ℕ) (q : ℕ → Bool) → list_all q (take (front n) (range_with_len 0 n)) ≡ all (front n) q
  list_all-front n q = ap (list_all q) (take-range 0 n (front n) (front-le n)) ∙ list_all-range q (front n)
