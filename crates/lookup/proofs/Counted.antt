-- What a walk that counts up finds in a list that is made of the numbers passed, and the walks over a bank's scenes that count so. They are kept beside those
-- of Counting, and for the same reason: the code goes by iterators now (Rows.antt). `scenes-counted` is the walk's own here; that of SceneLaws speaks of the
-- records that a lookup goes over; and `transport-is` is of the button, where that of TransportLaws is of its command. Assumes nothing.
use Rattle.std.specs.Prelude.{ℕ, zero, suc, ◌+◌, ◌≤◌, ◌<◌, ◌≡◌, Bool, true, false, ◌&&◌, cond, List, [], ◌∷◌, ◌++◌, eqb, length, get_or, None, Option, Some, option_map}
use Rattle.std.proofs.Math.Path.{refl}
use Rattle.std.proofs.Common.{sym, ap, ◌∙◌, ⊎_elim, eq-or-lt_of_le, le_of_suc-le-suc, eq-eqb, ne_eqb, arith}
use Rattle.std.proofs.Math.ListN.{get_or-eq_default, get_or-append}
use Rattle.std.proofs.lemmas.List.{get_or_at}
use Rattle.base.specs.Choice.{pick}
use Rattle.base.specs.Range.{count}
use Rattle.base.specs.First.{first, or_else}
use Rattle.base.specs.Keyed.{find}
use Rattle.base.proofs.FirstLaws.{first_more, first-hit}
use Rattle.profile.specs.Profile.{half_at}
use Rattle.profile.proofs.RangeMore.{count-lt}
use Rattle.lookup.specs.Gather.{gather}
use Rattle.lookup.specs.Lookup.{of_part, reach, entry, entry_at, command_at, scenes_of, position, transports_of, transport_of, bound_by}
use Rattle.lookup.proofs.GatherLaws.{gather-length}
use Rattle.lookup.proofs.Counting.{from, Walked}
use Rattle.lookup.proofs.TransportLaws.{transport-is as runs_first}

-- the first of two that is there
abbrev either : {A : Type 0} → Option A → Option A → Option A
either (Some x) y = Some x
either None y = y

from_else : {A : Type 0} (g : ℕ → A) (a b : Option ℕ) → from g (or_else a b) ≡ either (from g a) (from g b)
from_else g (Some k) b = refl
from_else g None b = refl

module _ {A : Type 0} (p : ℕ → Bool) (g : ℕ → A) where
  -- one that is there has the place that counts those before it
  pub gather-at : (d : A) (n k : ℕ) → k < n → p k ≡ true → g k ≡ get_or (gather n p g) (count k p) d
  unfolding gather
  gather-at d zero k l e = absurd (omega arith)
  gather-at d (suc n) k l e =
      ⊎_elim
      (λ q.
      let e' : p n ≡ true = rw q at e in
      ap g q ∙ sym (get_or_at (gather n p g) (g n) [] d (count n p) (gather-length p g n)) ∙ rw (e', q))
      (λ m.
      let h : count k p < length (gather n p g) = rw (gather-length p g n) (count-lt p k n (omega arith) e) in
      gather-at d n k (omega arith) e ∙ sym (get_or-append (gather n p g) (pick (p n) (g n ∷ []) []) d (count k p) h))
      (eq-or-lt_of_le (le_of_suc-le-suc l))

  -- and past the last there is none
  pub gather-past : (d : A) (n m : ℕ) → count n p ≤ m → d ≡ get_or (gather n p g) m d
  gather-past d n m h = sym (get_or-eq_default (gather n p g) d (rw (gather-length p g n) h))

  -- the first that passes
  module _ (f : A → Bool) where
    find-append : (xs ys : List A) → find f (xs ++ ys) ≡ either (find f xs) (find f ys)
    unfolding find
    find-append [] ys = refl
    find-append (x ∷ xs) ys = go (f x) (find-append xs ys)
      where
        go : (b : Bool) → find f (xs ++ ys) ≡ either (find f xs) (find f ys) →
            pick b (Some x) (find f (xs ++ ys)) ≡ either (pick b (Some x) (find f xs)) (find f ys)
        go true ih = refl
        go false ih = ih

    last_one : (n : ℕ) (a b : Bool) → f (g n) ≡ b → find f (pick a (g n ∷ []) []) ≡ from g (cond (a && b) (Some n) None)
    unfolding find
    last_one n true true e = rw e
    last_one n true false e = rw e
    last_one n false b e = refl

    no_one : find f [] ≡ None
    unfolding find
    no_one = refl

    pub gather-find : (n : ℕ) → from g (first n (λ k. p k && f (g k))) ≡ find f (gather n p g)
    unfolding gather first
    gather-find zero = sym no_one
    gather-find (suc n) =
        from_else g (first n (λ k. p k && f (g k))) (cond (p n && f (g n)) (Some n) None)
        ∙ rw (gather-find n, ← last_one n (p n) (f (g n)) refl) (sym (find-append (gather n p g) (pick (p n) (g n ∷ []) [])))

-- ── a walk over a bank's scenes ──

module _ (s : List ℕ) (b : ℕ) where
  scenes-length : length (scenes_of s b) ≡ count (reach s 4) (of_part s 4 b)
  unfolding scenes_of
  scenes-length = gather-length (of_part s 4 b) (λ k. half_at s k 4) (reach s 4)

  module _ (m k : ℕ) (w : Walked (of_part s 4 b) m k) where
    -- the record at which the loop stands is scene m
    scene_here : k < reach s 4 → of_part s 4 b k ≡ true → half_at s k 4 ≡ get_or (scenes_of s b) m 65535
    unfolding scenes_of
    scene_here l e = rw w.is (gather-at (of_part s 4 b) (λ j. half_at s j 4) 65535 (reach s 4) k l e)

    scene-lt : k < reach s 4 → of_part s 4 b k ≡ true → m < length (scenes_of s b)
    scene-lt l e = rw (scenes-length, w.is) (count-lt (of_part s 4 b) k (reach s 4) l e)

    pub scenes-counted : reach s 4 ≡ k → m ≡ length (scenes_of s b)
    scenes-counted e = w.is ∙ rw (scenes-length, e)

    -- the name of the n-th scene: it is here, or there is none
    pub name-hit : (n x : ℕ) → k < reach s 4 → of_part s 4 b k ≡ true → m ≡ n → x ≡ half_at s k 4 → x ≡ get_or (scenes_of s b) n 65535
    name-hit n x l e q h = h ∙ scene_here l e ∙ rw q

    pub name_done : (n : ℕ) → reach s 4 ≡ k → m ≤ n → 65535 ≡ get_or (scenes_of s b) n 65535
    unfolding scenes_of
    name_done n e q = gather-past (of_part s 4 b) (λ j. half_at s j 4) 65535 (reach s 4) n (rw (e, ← w.is) q)

    -- the place of a name: none of the first m has it
    module _ (name : ℕ) (none : first m (λ i. eqb (get_or (scenes_of s b) i 65535) name) ≡ None) where
      pub position-hit : (x : ℕ) → k < reach s 4 → of_part s 4 b k ≡ true → x ≡ half_at s k 4 → x ≡ name → Some m ≡ position name (scenes_of s b)
      unfolding position
      position-hit x l e h q =
          first-hit (λ i. eqb (get_or (scenes_of s b) i 65535) name) (length (scenes_of s b)) m none
          (eq-eqb (get_or (scenes_of s b) m 65535) name (sym (scene_here l e) ∙ sym h ∙ q)) (scene-lt l e)

      pub position-more : (x : ℕ) → k < reach s 4 → of_part s 4 b k ≡ true → x ≡ half_at s k 4 → (x ≡ name → ⊥) →
          first (m + 1) (λ i. eqb (get_or (scenes_of s b) i 65535) name) ≡ None
      position-more x l e h q =
          first_more (λ i. eqb (get_or (scenes_of s b) i 65535) name) m none
          (ne_eqb (get_or (scenes_of s b) m 65535) name (λ r. q (h ∙ scene_here l e ∙ r)))

      pub position-done : reach s 4 ≡ k → None ≡ position name (scenes_of s b)
      unfolding position
      position-done e = rw (← scenes-counted e) (sym none)

-- ── the first button of a kind ──

bound_from : (s : List ℕ) (o : Option ℕ) → bound_by (from (entry_at s) o) ≡ option_map (command_at s) o
bound_from s (Some k) = refl
bound_from s None = refl

-- the first of its kind in the list is the first record of the part and the kind
pub transport-is : (s : List ℕ) (part kind : ℕ) → bound_by (from (entry_at s) (entry s 5 part kind)) ≡ transport_of kind (transports_of s part)
transport-is s part kind = bound_from s (entry s 5 part kind) ∙ runs_first s part kind
