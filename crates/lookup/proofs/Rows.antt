-- The records that a walk has left. Assumes nothing.
use Rattle.std.specs.Prelude.{ℕ, zero, ◌+◌, ◌-◌, ◌≤◌, ◌<◌, ◌≡◌, refl, List, [], ◌∷◌, ◌++◌, map, suc, Bool, true, false, cond, None, Some, Option, IfSome, filter, length, ⊤}
use Rattle.std.specs.Option.{option_map}
use Rattle.std.specs.List.{find, FoldsTo}
use Rattle.std.specs.Fn.{CalledAt}
use Rattle.std.specs.Iterator.{Yields, YieldsFirstBy, FindsItem, MakesProgress, item_count}
use denote.Param.Members.{Mut}
use denote.Ref.{Bor}
use Rattle.std.proofs.Common.{arith, ap, sym, ◌∙◌, subst, add-zero, append_assoc}
use Rattle.std.proofs.lemmas.List.Sums.{length-filter, count_by-le-length}
use Rattle.std.proofs.lemmas.List.FromFn.{length-map-range_with_len}
use mathlib.Core.List.{append-nil}
use borrow.Author.Tests.{lt-ltb, le-ltb}
use Rattle.base.specs.First.{first}
use Rattle.base.proofs.FirstLaws.{first-none, first_more, first-hit}
use Rattle.profile.specs.declared.record.Record.{Record}
use Rattle.profile.specs.Profile.{records, byte_at}
use Rattle.lookup.specs.Gather.{gather}
use Rattle.lookup.proofs.GatherLaws.{gather_yes, gather_no}
use Rattle.lookup.specs.Lookup.{is_past, reach}
use Rattle.lookup.proofs.LookupLaws.{reach-le, reach_here, reach_on}
use Rattle.lookup.specs.Rows.{Row, row, row_of, rows, of, rows_of}

over : (s : List ℕ) (k n : ℕ) → n ≤ k → rows s k (n - k) ≡ []
over s k n h = let e : n - k ≡ 0 = omega arith in rw e

next : (s : List ℕ) (k n : ℕ) → k < n → rows s k (n - k) ≡ row s k ∷ rows s (k + 1) (n - (k + 1))
next s k n h = let e : n - k ≡ suc (n - (k + 1)) = omega arith in rw e

-- at the end of the file there is none
pub rows_end : (s : List ℕ) (kind k : ℕ) → records s ≤ k → rows s k (reach s kind - k) ≡ []
rows_end s kind k h = over s k (reach s kind) (omega (arith, reach-le s kind))

-- x is the kind of record k, at which a walk stands that has met no record of a higher kind
module _ (s : List ℕ) (kind k x : ℕ) (none : first k (is_past s kind) ≡ None) (in_file : k < records s) (is : x ≡ byte_at s k 0) where
  -- record k is the first of a higher kind
  pub rows_past : kind < x → rows s k (reach s kind - k) ≡ []
  rows_past h = let e : reach s kind ≡ k = reach_here s kind k none (lt-ltb kind (byte_at s k 0) (omega arith)) in_file in over s k (reach s kind) (omega arith)

  -- or the next of the walk
  pub not_past : x ≤ kind → is_past s kind k ≡ false
  not_past h = le-ltb kind (byte_at s k 0) (omega arith)

  pub rows_next : x ≤ kind → rows s k (reach s kind - k) ≡ row s k ∷ rows s (k + 1) (reach s kind - (k + 1))
  rows_next h = next s k (reach s kind) (reach_on s kind k none (not_past h) in_file)

-- each record that a walk gives brings it nearer to its end
pub progress : (s : List Row) (r : Option Record) (u : List Row) → YieldsFirstBy row_of (λ l. l) s r u → MakesProgress (λ _. ⊤) (item_count (λ l. l)) s r u
progress s (Some x) u e = record { on = λ _. (tt, tt, omega (arith, ap length e)); keeps = tt; rests = λ _. tt }
progress s None u e = record { on = λ _. tt; keeps = tt; rests = λ _. tt }

-- ── what a search among them finds ──

module _ (s : List ℕ) (t : Row → Bool) where
  -- none before the k-th passes
  find_from : (m k : ℕ) → first k (λ j. t (row s j)) ≡ None → find t (rows s k m) ≡ option_map (row s) (first (k + m) (λ j. t (row s j)))
  find_from zero k none = rw (add-zero, none)
  find_from (suc m) k none = go (t (row s k)) refl (find_from m (k + 1))
    where
      go : (b : Bool) → t (row s k) ≡ b → (first (k + 1) (λ j. t (row s j)) ≡ None → find t (rows s (k + 1) m) ≡ option_map (row s) (first (k + 1 + m) (λ j. t (row s j)))) →
          cond b (Some (row s k)) (find t (rows s (k + 1) m)) ≡ option_map (row s) (first (k + suc m) (λ j. t (row s j)))
      go true e on = rw (← first-hit (λ j. t (row s j)) (k + suc m) k none e (omega arith))
      go false e on = let q : k + suc m ≡ k + 1 + m = omega arith in rw q (on (first_more (λ j. t (row s j)) k none e))

  pub find_rows : (n : ℕ) → find t (rows s 0 n) ≡ option_map (row s) (first n (λ j. t (row s j)))
  find_rows n = let z : 0 + n ≡ n = omega arith in rw z at (find_from n 0 (first-none (λ j. t (row s j))))

-- what is known of a record that is found
pub found : (s : List ℕ) (r : Option Record) (f : Option ℕ) → option_map row_of r ≡ option_map (row s) f → (option_map (λ x. x.k) r ≡ f) × IfSome r (λ x. x.profile.now ≡ s)
found s (Some x) (Some k) e = let q : row_of x ≡ row s k = cc in (ap (λ y. Some y.k) q, ap (λ y. y.profile) q)
found s (Some x) None e = cc
found s None (Some k) e = cc
found s None None e = (refl, tt)

-- ── those of a kind and part ──

-- what a search for the next of which t holds gives, and leaves
module _ {F : Type 0} (t : Row → Bool) (g : Mut F (Bor Record × Unit {0}) Bool) (r : Option Record) (u : List Row) where
  next-step : (xs : List Record) (s m : List Row) (f j : F) → Yields (YieldsFirstBy row_of (λ l. l)) s xs m → FoldsTo (λ p x q. CalledAt g p x false q) f xs j →
      ((x : Record) (b : Bool) (q : F) → CalledAt g f x b q → (q ≡ f) × (b ≡ t (row_of x))) → (filter t s ≡ filter t m) × (f ≡ j)
  next-step [] s m f j y w h = (ap (filter t) y, w)
  next-step (x ∷ xs) s m f j y w h =
      let e = h x false w.0 w.1 in
      let v = next-step xs y.0 m f j y.2 (subst (λ (p : F). FoldsTo (λ p x q. CalledAt g p x false q) p xs j) e.0 w.2) h in
      (rw (y.1, ← e.1) v.0, v.1)

  pub next_of : (s : List Row) (f : F) → FindsItem (YieldsFirstBy row_of (λ l. l)) g s f r u →
      ((x : Record) (b : Bool) (q : F) → CalledAt g f x b q → (q ≡ f) × (b ≡ t (row_of x))) → YieldsFirstBy row_of (λ l. l) (filter t s) r (filter t u)
  next_of s f w h = let v = next-step w.0 s w.2.0 f w.1 w.2.1 w.3 h in go r v w.2.2 w.4
    where
      go : (r : Option Record) → (filter t s ≡ filter t w.2.0) × (f ≡ w.1) → YieldsFirstBy row_of (λ l. l) w.2.0 r u → IfSome r (λ x. (q : F) × CalledAt g w.1 x true q) →
          YieldsFirstBy row_of (λ l. l) (filter t s) r (filter t u)
      go (Some x) v y z = let e = h x true z.0 (subst (λ (p : F). CalledAt g p x true z.0) (sym v.1) z.1) in v.0 ∙ rw (y, ← e.1)
      go None v y z = (v.0 ∙ rw y.0, rw y.1)

-- no more than the file has
pub few_rows : (s : List ℕ) (kind part : ℕ) → length (rows_of s kind part) ≤ records s
few_rows s kind part =
    omega
    (arith, length-filter (of kind part) (rows s 0 (reach s kind)), count_by-le-length (of kind part) (rows s 0 (reach s kind)), length-map-range_with_len (row s) 0 (reach s kind), reach-le s kind)

-- a list made of their numbers
module _ {A : Type 0} (s : List ℕ) (t : Row → Bool) (h : Row → A) where
  gather_from : (m k : ℕ) → gather k (λ j. t (row s j)) (λ j. h (row s j)) ++ map h (filter t (rows s k m)) ≡ gather (k + m) (λ j. t (row s j)) (λ j. h (row s j))
  gather_from zero k = append-nil _ ∙ rw add-zero
  gather_from (suc m) k = go (t (row s k)) refl (gather_from m (k + 1))
    where
      go : (b : Bool) → t (row s k) ≡ b →
          gather (k + 1) (λ j. t (row s j)) (λ j. h (row s j)) ++ map h (filter t (rows s (k + 1) m)) ≡ gather (k + 1 + m) (λ j. t (row s j)) (λ j. h (row s j)) →
          gather k (λ j. t (row s j)) (λ j. h (row s j)) ++ map h (cond b (row s k ∷ filter t (rows s (k + 1) m)) (filter t (rows s (k + 1) m))) ≡ gather (k + suc m) (λ j. t (row s j)) (λ j. h (row s j))
      go true e ih =
          let q : k + suc m ≡ k + 1 + m = omega arith in
          rw (q, ← ih, gather_yes (λ j. t (row s j)) (λ j. h (row s j)) k e, append_assoc)
      go false e ih = let q : k + suc m ≡ k + 1 + m = omega arith in rw (q, ← ih, gather_no (λ j. t (row s j)) (λ j. h (row s j)) k e)

  pub gather_rows : (n : ℕ) → map h (filter t (rows s 0 n)) ≡ gather n (λ j. t (row s j)) (λ j. h (row s j))
  unfolding gather
  gather_rows n = let z : 0 + n ≡ n = omega arith in rw z at (gather_from n 0)
