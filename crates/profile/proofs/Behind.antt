-- Behind a record of kind 4 or more stands no fader and no encoder, as kinds never fall: there the loops of `once_each` and `finite_ok` are done. Assumes nothing.
use Prim.Native.Nat.{ℕ, zero, suc, ◌≤◌, ◌<◌}
use mathlib.Core.Path.{◌≡◌}
use mathlib.Core.List.{List}
use mathlib.Core.Bool.{Bool, true, false, not, and-true}
use mathlib.Core.Logic.{⊎_elim}
use native.Mathlib.Nat.{le_antisymm, eq-or-lt_of_le}
use native.Mathlib.Omega.{arith}
use borrow.Author.Tests.{ne_eqb}
use Rattle.base.specs.Range.{all}
use Rattle.base.proofs.RangeLaws.{every-at}
use Rattle.profile.specs.Profile.{records, byte_at, control, again, once_each, ends_finite, finite_ok, ordered_at, order_ok}
use Rattle.profile.proofs.Ordered.{kinds_rise}

-- where each from k on is true, all are where the first k are
all_rest : (p : ℕ → Bool) (k n : ℕ) → k ≤ n → ((j : ℕ) → k ≤ j → j < n → p j ≡ true) → all k p ≡ all n p
unfolding all
all_rest p k zero h f = rw (le_antisymm h (omega arith))
all_rest p k (suc n) h f =
    ⊎_elim
    (λ e. rw e)
    (λ l. let m : k ≤ n = omega arith in rw (f n m (omega arith), and-true) (all_rest p k n m (λ j a b. f j a (omega arith))))
    (eq-or-lt_of_le h)

module _ (s : List ℕ) (k : ℕ) (ok : all (records s) (ordered_at s) ≡ true) (most : k ≤ records s) (high : k < records s → 3 < byte_at s k 0) where
  no_control : (j : ℕ) → k ≤ j → j < records s → control (byte_at s j 0) ≡ false
  unfolding control
  no_control j a l =
      let q = kinds_rise s ok k j a l in
      let h = high (omega arith) in
      rw (ne_eqb (byte_at s j 0) 2 (λ e. omega arith), ne_eqb (byte_at s j 0) 3 (λ e. omega arith))

  pub once_past : all k (λ i. not (again s i)) ≡ once_each s
  unfolding once_each
  once_past = all_rest (λ i. not (again s i)) k (records s) most (λ j a l. rw (no_control j a l))

  pub finite_past : all k (ends_finite s) ≡ finite_ok s
  unfolding finite_ok ends_finite
  finite_past = all_rest (ends_finite s) k (records s) most (λ j a l. rw (no_control j a l))

-- the order of a file that number 3 does not decline
pub all-ordered : (s : List ℕ) → order_ok s ≡ true → all (records s) (ordered_at s) ≡ true
unfolding order_ok
all-ordered s e = every-at _ 1 e
