-- A table that a loop over numbers keeps: a flag, or a count, for each key seen so far. Assumes nothing.
use Rattle.std.specs.Prelude.{ℕ, ◌+◌, ◌<◌, ◌≡◌, refl, List, Bool, true, false, ◌&&◌, length, get_or, set, replicate, eqb}
use Rattle.std.proofs.Common.{sym, ap, ◌∙◌, add-zero, get_or-set_same, get_or-set_other, eq-eqb, ne_eqb}
use Rattle.std.proofs.Math.Bool.{or-true, or-false}
use Rattle.std.proofs.Math.Decide.{ℕ_discrete}
use Rattle.std.proofs.lemmas.List.{get_or-replicate}
use Rattle.base.specs.Range.{any, count, bit}
use Rattle.base.proofs.RangeLaws.{any_none, any-more, count_none, count-more}

module _ (f : ℕ → Bool) (key : ℕ → ℕ) where
  -- j is of the sort that f picks, and its key is v
  abbrev pub hit : ℕ → ℕ → Bool
  hit v j = f j && eqb (key j) v

  -- entry v of the table is 1 if some number below i hits v, else 0
  abbrev pub Marks : ℕ → List ℕ → ℕ → Type 0
  Marks size tab i = (v : ℕ) → v < size → get_or tab v 0 ≡ bit (any i (hit v))

  pub marks_none : (size : ℕ) → Marks size (replicate size 0) 0
  marks_none size v l = get_or-replicate size v 0 0 l ∙ rw (any_none (hit v))

  pub marks_skip : (size : ℕ) (tab : List ℕ) (i : ℕ) → f i ≡ false → Marks size tab i → Marks size tab (i + 1)
  marks_skip size tab i e m v l = m v l ∙ rw (any-more, e, or-false)

  -- i is of the sort, and its entry is set
  pub marks_set : (size : ℕ) (tab : List ℕ) (i : ℕ) → size ≡ length tab → key i < size → f i ≡ true → Marks size tab i → Marks size (set tab (key i) 1) (i + 1)
  marks_set size tab i long in_table e m v l =
      elim (ℕ_discrete v (key i)) [
        | yes q ↦
            rw (q, any-more, e, eq-eqb (key i) (key i) refl, or-true) (get_or-set_same tab (key i) 1 0 (rw (← long) in_table))
        | no q ↦
            get_or-set_other tab (key i) v 1 0 q ∙ m v l ∙ rw (any-more, e, ne_eqb (key i) v (λ p. q (sym p)), or-false)
      ]

  -- entry v of the table says how many numbers below i hit v
  abbrev pub Counts : ℕ → List ℕ → ℕ → Type 0
  Counts size tab i = (v : ℕ) → v < size → get_or tab v 0 ≡ count i (hit v)

  pub counts_none : (size : ℕ) → Counts size (replicate size 0) 0
  counts_none size v l = get_or-replicate size v 0 0 l ∙ rw (count_none (hit v))

  pub counts_skip : (size : ℕ) (tab : List ℕ) (i : ℕ) → f i ≡ false → Counts size tab i → Counts size tab (i + 1)
  counts_skip size tab i e m v l = m v l ∙ rw (count-more, e, add-zero)

  pub counts_add : (size : ℕ) (tab : List ℕ) (i : ℕ) → size ≡ length tab → key i < size → f i ≡ true → Counts size tab i → Counts size (set tab (key i) (get_or tab (key i) 0 + 1)) (i + 1)
  counts_add size tab i long in_table e m v l =
      elim (ℕ_discrete v (key i)) [
        | yes q ↦
            rw (q, count-more, e, eq-eqb (key i) (key i) refl) (get_or-set_same tab (key i) _ 0 (rw (← long) in_table) ∙ ap (λ (x : ℕ). x + 1) (m (key i) in_table))
        | no q ↦
            get_or-set_other tab (key i) v _ 0 q ∙ m v l ∙ rw (count-more, e, ne_eqb (key i) v (λ p. q (sym p)), add-zero)
      ]
