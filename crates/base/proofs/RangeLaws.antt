-- What a loop that counts up shows of `all`, `any` and `count`. Assumes nothing.
use Prim.Native.Nat.{ℕ, zero, suc, ◌+◌, ◌≤◌, ◌<◌}
use Rattle.std.specs.Prelude.{◌≡◌, List, [], ◌∷◌, get_or, Bool, true, false, ◌&&◌, ◌||◌, ◌⊎◌}
use Rattle.std.proofs.Math.Path.{refl, ap}
use Rattle.std.proofs.Common.{sym, ◌∙◌, subst, inl, inr, le_antisymm, not-suc-le-zero, le_of_suc-le-suc, eq-or-lt_of_le}
use Rattle.std.proofs.Math.Bool.{and-false}
use Rattle.std.proofs.lemmas.Bool.{false≢true}
use Rattle.std.proofs.Math.Logic.{⊎_elim}
use Rattle.std.proofs.Math.Numerals.{add-one}
use native.Mathlib.Omega.{arith}
use Rattle.base.specs.Range.{all, any, count, bit, every}

pub and_left : (a b : Bool) → (a && b) ≡ true → a ≡ true
and_left true b e = refl
and_left false b e = e

pub and_right : (a b : Bool) → (a && b) ≡ true → b ≡ true
and_right true b e = e
and_right false b e = let z : ◌≡◌ {A = Bool} true false = sym e in cc

pub or_cases : (a b : Bool) → (a || b) ≡ true → (a ≡ true) ⊎ (b ≡ true)
or_cases true b e = inl refl
or_cases false b e = inr e

-- the two halves of an or that is false
pub or_left_no : (a b : Bool) → (a || b) ≡ false → a ≡ false
or_left_no true b e = e
or_left_no false b e = refl

pub or_right_no : (a b : Bool) → (a || b) ≡ false → b ≡ false
or_right_no true b e = absurd (false≢true (sym e))
or_right_no false b e = e

pub bit_le : (b : Bool) → bit b ≤ 1
bit_le true = omega arith
bit_le false = omega arith

module _ (p : ℕ → Bool) where
  pub all_none : all 0 p ≡ true
  unfolding all
  all_none = refl

  -- one more turn
  pub all_more : (i : ℕ) → all i p ≡ true → p i ≡ true → all (i + 1) p ≡ true
  unfolding all
  all_more i h q = rw (add-one, h, q)

  -- every turn was made
  pub all_done : (i n : ℕ) → i ≤ n → n ≤ i → all i p ≡ true → true ≡ all n p
  all_done i n a b h = subst (λ (m : ℕ). true ≡ all m p) (le_antisymm a b) (sym h)

  -- what is true of all is true of each
  pub all-at : (n k : ℕ) → all n p ≡ true → k < n → p k ≡ true
  unfolding all
  all-at zero k h l = absurd (not-suc-le-zero l)
  all-at (suc n) k h l =
      ⊎_elim (λ e. rw e (and_right (all n p) (p n) h)) (λ lt. all-at n k (and_left (all n p) (p n) h) lt) (eq-or-lt_of_le (le_of_suc-le-suc l))

  -- and what is true of each is true of all
  pub all_each : (n : ℕ) → ((k : ℕ) → k < n → p k ≡ true) → all n p ≡ true
  unfolding all
  all_each zero h = refl
  all_each (suc n) h = rw (all_each n (λ k l. h k (omega arith)), h n (omega arith))

  -- one that fails
  all_fails : (n k : ℕ) → k < n → p k ≡ false → all n p ≡ false
  unfolding all
  all_fails zero k l q = absurd (not-suc-le-zero l)
  all_fails (suc n) k l q =
      ⊎_elim (λ e. ap (λ (b : Bool). all n p && b) (rw e at q) ∙ and-false (all n p)) (λ lt. rw (all_fails n k lt q)) (eq-or-lt_of_le (le_of_suc-le-suc l))

  pub all_stop : (n k : ℕ) → k < n → p k ≡ false → false ≡ all n p
  all_stop n k l q = sym (all_fails n k l q)

  -- what the loop carries of a count, at the next turn
  pub count_none : count 0 p ≡ 0
  unfolding count
  count_none = refl

  pub count-more : (i : ℕ) → count (i + 1) p ≡ count i p + bit (p i)
  unfolding count
  count-more i = rw add-one

  pub count-le : (n : ℕ) → count n p ≤ n
  unfolding count
  count-le zero = omega arith
  count-le (suc n) = omega (arith, count-le n, bit_le (p n))

  pub count-done : (i n : ℕ) → i ≤ n → n ≤ i → count i p ≡ count n p
  count-done i n a b = ap (λ (m : ℕ). count m p) (le_antisymm a b)

  pub any_none : any 0 p ≡ false
  unfolding any
  any_none = refl

  pub any-more : (i : ℕ) → any (i + 1) p ≡ (any i p || p i)
  unfolding any
  any-more i = rw add-one

-- two Booleans of which each is true where the other is
pub bool_iff : (a b : Bool) → (a ≡ true → b ≡ true) → (b ≡ true → a ≡ true) → a ≡ b
bool_iff true b f g = sym (f refl)
bool_iff false true f g = absurd (false≢true (g refl))
bool_iff false false f g = refl

pub and_intro : (a b : Bool) → a ≡ true → b ≡ true → (a && b) ≡ true
and_intro a b p q = rw (p, q)

-- questions that agree below n have one answer
module _ (p q : ℕ → Bool) where
  pub all_cong : (n : ℕ) → ((k : ℕ) → k < n → p k ≡ q k) → all n p ≡ all n q
  unfolding all
  all_cong zero h = refl
  all_cong (suc n) h = rw (all_cong n (λ k l. h k (omega arith)), h n (omega arith))

  pub any_cong : (n : ℕ) → ((k : ℕ) → k < n → p k ≡ q k) → any n p ≡ any n q
  unfolding any
  any_cong zero h = refl
  any_cong (suc n) h = rw (any_cong n (λ k l. h k (omega arith)), h n (omega arith))

  pub count_cong : (n : ℕ) → ((k : ℕ) → k < n → p k ≡ q k) → count n p ≡ count n q
  unfolding count
  count_cong zero h = refl
  count_cong (suc n) h = rw (count_cong n (λ k l. h k (omega arith)), h n (omega arith))

-- test i of those that are passed
pub every-at : (l : List Bool) (i : ℕ) → every l ≡ true → get_or l i true ≡ true
unfolding every
every-at [] i e = refl
every-at (a ∷ []) zero e = e
every-at (a ∷ []) (suc i) e = refl
every-at (a ∷ b ∷ l) zero e = and_left a (every (b ∷ l)) e
every-at (a ∷ b ∷ l) (suc i) e = every-at (b ∷ l) i (and_right a (every (b ∷ l)) e)
