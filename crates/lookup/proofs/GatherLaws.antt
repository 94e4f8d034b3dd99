-- What a loop that counts up shows of `gather`. Assumes nothing.
use Prim.Native.Nat.{ℕ, zero, suc, ◌+◌, ◌≤◌, ◌<◌}
use Rattle.std.specs.Prelude.{◌≡◌, Bool}
use Rattle.std.proofs.Math.Path.{refl, sym, ap}
use Rattle.std.proofs.Common.{◌∙◌, le_antisymm, eq-or-lt_of_le, le_of_suc-le-suc, add-zero, add-one, arith}
use Rattle.std.proofs.Math.Bool.{true, false}
use mathlib.Core.List.{[], ◌∷◌, ◌++◌, append-nil}
use Rattle.std.proofs.Math.Logic.{⊎_elim}
use Rattle.std.proofs.Math.ListN.{length, length-append}
use Rattle.base.specs.Choice.{pick}
use Rattle.base.specs.Range.{count, bit}
use Rattle.lookup.specs.Gather.{gather}
use Rattle.lookup.proofs.FirstMore.{not_behind}

module _ {A : Type 0} (p : ℕ → Bool) (g : ℕ → A) where
  pub gather_yes : (i : ℕ) → p i ≡ true → gather (i + 1) p g ≡ gather i p g ++ (g i ∷ [])
  unfolding gather
  gather_yes i e = rw (add-one, e)

  pub gather_no : (i : ℕ) → p i ≡ false → gather (i + 1) p g ≡ gather i p g
  unfolding gather
  gather_no i e = rw (add-one, e, append-nil)

  -- where all below n of which p holds are below m, the list made up to m is the whole
  pub gather_short : (m n : ℕ) → m ≤ n → ((k : ℕ) → k < n → p k ≡ true → k < m) → gather m p g ≡ gather n p g
  unfolding gather
  gather_short m zero l h = rw (le_antisymm l (omega arith))
  gather_short m (suc n) l h =
      ⊎_elim
      (λ e. rw e)
      (λ b.
      gather_short m n (le_of_suc-le-suc b) (λ k c. h k (omega arith))
      ∙ rw (not_behind (p n) m n (h n (omega arith)) (omega arith)) (sym (append-nil (gather n p g))))
      (eq-or-lt_of_le l)

  -- there are as many as are counted
  pub gather-length : (n : ℕ) → length (gather n p g) ≡ count n p
  unfolding gather count
  gather-length zero = refl
  gather-length (suc n) = go (p n) (gather-length n)
    where
      go : (b : Bool) → length (gather n p g) ≡ count n p → length (gather n p g ++ pick b (g n ∷ []) []) ≡ count n p + bit b
      go true ih = simp length-append (ap (λ (m : ℕ). m + 1) ih)
      go false ih = rw (append-nil, add-zero) ih
