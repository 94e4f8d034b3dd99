-- What one more, a change and a keeping leave of a list that passes a test or has none twice; and that a list of numbers below n, none twice, has at most n,
-- which makes room in the line. Each stated once, for every element, every key and every n.
use Rattle.std.specs.Prelude.{◌≡◌, Bool, not, ltb}
use Rattle.std.proofs.Math.Path.{refl, sym, subst}
use Rattle.std.proofs.Common.{ap, ◌∙◌, true≢false}
use Rattle.std.proofs.Math.Bool.{true, false}
use Rattle.std.proofs.lemmas.Bool.{false≢true}
use mathlib.Core.List.{List, [], ◌∷◌, ◌++◌}
use Prim.Native.Nat.{ℕ, zero, suc, ◌≤◌, ◌<◌}
use native.Mathlib.Omega.{arith}
use Rattle.std.proofs.Math.ListN.{length}
use Rattle.std.proofs.Math.Dec.{eqb}
use borrow.Author.Tests.{lt-ltb, ltb-true, ne_eqb, eqb-true, eqb-false}
use Rattle.base.specs.Choice.{pick}
use Rattle.base.specs.Keyed.{any_of, all_of, keep, change, no_twice}

-- the two halves of a test that passed
pub left_of_lem : (b : Bool) (c : Bool) → pick b c false ≡ true → b ≡ true
left_of_lem true c e = refl
left_of_lem false c e = e

pub right_of : (b : Bool) (c : Bool) → pick b c false ≡ true → c ≡ true
right_of true c e = e
right_of false c e = absurd (false≢true e)

-- the same, of a test that must fail
pub no_left : (b : Bool) (c : Bool) → pick b false c ≡ true → b ≡ false
no_left true c e = absurd (false≢true e)
no_left false c e = refl

pub no_right : (b : Bool) (c : Bool) → pick b false c ≡ true → c ≡ true
no_right true c e = absurd (false≢true e)
no_right false c e = e

pub first_no : (b : Bool) (c : Bool) → pick b true c ≡ false → b ≡ false
first_no true c e = e
first_no false c e = refl

pub rest_no : (b : Bool) (c : Bool) → pick b true c ≡ false → c ≡ false
rest_no true c e = absurd (true≢false e)
rest_no false c e = e

-- what passes a test passes any that follows from it
pub all_so : {A : Type 0} (f g : A → Bool) → ((x : A) → f x ≡ true → g x ≡ true) → (l : List A) → all_of f l ≡ true → all_of g l ≡ true
unfolding all_of
all_so f g r [] e = refl
all_so f g r (x ∷ l) e = rw (r x (left_of_lem (f x) (all_of f l) e)) (all_so f g r l (right_of (f x) (all_of f l) e))

-- two lists whose elements pass, one behind the other
pub all_append : {A : Type 0} (f : A → Bool) (xs ys : List A) → all_of f xs ≡ true → all_of f ys ≡ true → all_of f (xs ++ ys) ≡ true
unfolding all_of
all_append f [] ys a b = b
all_append f (x ∷ xs) ys a b = rw (left_of_lem (f x) (all_of f xs) a) (all_append f xs ys (right_of (f x) (all_of f xs) a) b)

-- one more at the end
module _ {A : Type 0} where
  any_append : (f : A → Bool) (l : List A) (x : A) → any_of f l ≡ false → f x ≡ false → any_of f (l ++ (x ∷ [])) ≡ false
  unfolding any_of
  any_append f [] x h k = rw k
  any_append f (y ∷ l) x h k = rw (first_no (f y) (any_of f l) h) (any_append f l x (rest_no (f y) (any_of f l) h) k)

  -- that is the same as none before
  pub once_append : (same : A → A → Bool) (l : List A) (x : A) → no_twice same l ≡ true → any_of (λ y. same y x) l ≡ false → no_twice same (l ++ (x ∷ [])) ≡ true
  unfolding no_twice any_of
  once_append same [] x h k = refl
  once_append same (y ∷ l) x h k =
      let a = any_append (same y) l x (no_left (any_of (same y) l) (no_twice same l) h) (first_no (same y x) (any_of (λ z. same z x) l) k) in
      rw a (once_append same l x (no_right (any_of (same y) l) (no_twice same l) h) (rest_no (same y x) (any_of (λ z. same z x) l) k))

-- a change to what passes
pub all-change : {A : Type 0} (f g : A → Bool) (h : A → A) (y : A) → f y ≡ true → ((x : A) → f (h x) ≡ true) →
    (l : List A) → all_of f l ≡ true → all_of f (change g h y l) ≡ true
unfolding all_of change
all-change f g h y new to [] e = rw new
all-change f g h y new to (x ∷ l) e =
    go (g x) (left_of_lem (f x) (all_of f l) e) (right_of (f x) (all_of f l) e) (all-change f g h y new to l (right_of (f x) (all_of f l) e))
  where
    go : (b : Bool) → f x ≡ true → all_of f l ≡ true → all_of f (change g h y l) ≡ true → all_of f (pick b (h x ∷ l) (x ∷ change g h y l)) ≡ true
    go true p q r = rw (to x, q)
    go false p q r = rw (p, r)

-- ── what keeping leaves ──
module _ {A : Type 0} where
  -- where none passes, none of those that are kept does
  any-keep : (f g : A → Bool) (l : List A) → any_of g l ≡ false → any_of g (keep f l) ≡ false
  unfolding any_of keep
  any-keep f g [] e = refl
  any-keep f g (x ∷ l) e = go (f x) (first_no (g x) (any_of g l) e) (any-keep f g l (rest_no (g x) (any_of g l) e))
    where
      go : (b : Bool) → g x ≡ false → any_of g (keep f l) ≡ false → any_of g (pick b (x ∷ keep f l) (keep f l)) ≡ false
      go true h k = rw (h, k)
      go false h k = k

  -- of a list with none twice, those that are kept have none twice
  pub once_keep : (same : A → A → Bool) (f : A → Bool) (l : List A) → no_twice same l ≡ true → no_twice same (keep f l) ≡ true
  unfolding no_twice keep
  once_keep same f [] e = refl
  once_keep same f (x ∷ l) e =
      go (f x) (any-keep f (same x) l (no_left (any_of (same x) l) (no_twice same l) e)) (once_keep same f l (no_right (any_of (same x) l) (no_twice same l) e))
    where
      go : (b : Bool) → any_of (same x) (keep f l) ≡ false → no_twice same (keep f l) ≡ true → no_twice same (pick b (x ∷ keep f l) (keep f l)) ≡ true
      go true a k = rw (a, k)
      go false a k = k

module _ {A : Type 0} (key : A → ℕ) where
  abbrev below : ℕ → A → Bool
  below n x = ltb (key x) n

  abbrev pub same : A → A → Bool
  same x y = eqb (key x) (key y)

  abbrev other : ℕ → A → Bool
  other n x = not (eqb (key x) n)

  below-keep : (n : ℕ) (l : List A) → all_of (below (suc n)) l ≡ true → all_of (below n) (keep (other n) l) ≡ true
  unfolding all_of keep
  below-keep n [] e = refl
  below-keep n (x ∷ l) e =
      go (eqb (key x) n) refl (ltb-true _ _ (left_of_lem (below (suc n) x) (all_of (below (suc n)) l) e))
      (below-keep n l (right_of (below (suc n) x) (all_of (below (suc n)) l) e))
    where
      go : (b : Bool) → eqb (key x) n ≡ b → key x < suc n → all_of (below n) (keep (other n) l) ≡ true →
          all_of (below n) (pick (not b) (x ∷ keep (other n) l) (keep (other n) l)) ≡ true
      go true e h k = k
      go false e h k = let d : key x ≡ n → ⊥ = eqb-false _ _ e in rw (lt-ltb (key x) n (omega arith), k)

  all-other : (n : ℕ) (x : A) (l : List A) → key x ≡ n → any_of (same x) l ≡ false → length (keep (other n) l) ≡ length l
  unfolding any_of keep
  all-other n x [] h e = refl
  all-other n x (y ∷ l) h e =
      let d : key x ≡ key y → ⊥ = eqb-false _ _ (first_no (same x y) (any_of (same x) l) e) in
      let f : eqb (key y) n ≡ false = ne_eqb (key y) n (λ q. d (h ∙ sym q)) in
      rw f (ap suc (all-other n x l h (rest_no (same x y) (any_of (same x) l) e)))

  one_less : (n : ℕ) (l : List A) → no_twice same l ≡ true → length l ≤ suc (length (keep (other n) l))
  unfolding no_twice keep
  one_less n [] e = omega arith
  one_less n (x ∷ l) e =
      go (eqb (key x) n) refl (no_left (any_of (same x) l) (no_twice same l) e) (one_less n l (no_right (any_of (same x) l) (no_twice same l) e))
    where
      go : (b : Bool) → eqb (key x) n ≡ b → any_of (same x) l ≡ false → length l ≤ suc (length (keep (other n) l)) →
          suc (length l) ≤ suc (length (pick (not b) (x ∷ keep (other n) l) (keep (other n) l)))
      go true h a k = omega (arith, all-other n x l (eqb-true _ _ h) a)
      go false h a k = omega arith

  pub pigeon : (n : ℕ) (l : List A) → all_of (below n) l ≡ true → no_twice same l ≡ true → length l ≤ n
  unfolding all_of
  pigeon zero [] e o = omega arith
  pigeon zero (x ∷ l) e o = let h : key x < 0 = ltb-true _ _ (left_of_lem (below 0 x) (all_of (below 0) l) e) in omega arith
  pigeon (suc n) l e o =
      omega (arith, one_less n l o, pigeon n (keep (other n) l) (below-keep n l e) (once_keep same (other n) l o))

  -- so a list that lacks a number below n has room
  pub has_room_lem : (n : ℕ) (l : List A) (x : A) → all_of (below n) l ≡ true → no_twice same l ≡ true → key x < n → any_of (same x) l ≡ false → length l < n
  unfolding all_of no_twice
  has_room_lem n l x e o h a =
      let k : all_of (below n) (x ∷ l) ≡ true = rw (lt-ltb _ _ h) e in
      let m : no_twice same (x ∷ l) ≡ true = rw a o in
      pigeon n (x ∷ l) k m

  -- the same with the search's test the other way round
  any-turn : (k : ℕ) (l : List A) → any_of (λ y. eqb (key y) k) l ≡ false → any_of (λ y. eqb k (key y)) l ≡ false
  unfolding any_of
  any-turn k [] e = refl
  any-turn k (y ∷ l) e =
      let f : eqb k (key y) ≡ false = ne_eqb k (key y) (λ q. eqb-false (key y) k (first_no (eqb (key y) k) (any_of (λ z. eqb (key z) k) l) e) (sym q)) in
      rw f (any-turn k l (rest_no (eqb (key y) k) (any_of (λ z. eqb (key z) k) l) e))

  pub has_room_for : (n : ℕ) (l : List A) (x : A) → all_of (below n) l ≡ true → no_twice same l ≡ true → key x < n → any_of (λ y. eqb (key y) (key x)) l ≡ false → length l < n
  has_room_for n l x e o h a = has_room_lem n l x e o h (any-turn (key x) l a)

-- ── what a change keeps: the key k takes its place, or comes behind ──
module _ {A : Type 0} (key : A → ℕ) (k : ℕ) (g : A → A) (y : A) (kg : (z : A) → key (g z) ≡ k) (ky : key y ≡ k) where
  abbrev is : A → Bool
  is x = eqb (key x) k

  any-change : (x : A) (l : List A) → (key x ≡ k → ⊥) → any_of (same key x) l ≡ false → any_of (same key x) (change is g y l) ≡ false
  unfolding any_of change
  any-change x [] d e = rw (ky, ne_eqb _ _ d)
  any-change x (z ∷ l) d e =
      go (is z) (first_no (same key x z) (any_of (same key x) l) e) (rest_no (same key x z) (any_of (same key x) l) e)
      (any-change x l d (rest_no (same key x z) (any_of (same key x) l) e))
    where
      go : (b : Bool) → same key x z ≡ false → any_of (same key x) l ≡ false → any_of (same key x) (change is g y l) ≡ false →
          any_of (same key x) (pick b (g z ∷ l) (z ∷ change is g y l)) ≡ false
      go true p q r = rw (kg z, ne_eqb _ _ d, q)
      go false p q r = rw (p, r)

  pub once_change : (l : List A) → no_twice (same key) l ≡ true → no_twice (same key) (change is g y l) ≡ true
  unfolding no_twice change any_of
  once_change [] e = refl
  once_change (x ∷ l) e =
      go (is x) refl (no_left (any_of (same key x) l) (no_twice (same key) l) e) (no_right (any_of (same key x) l) (no_twice (same key) l) e)
      (once_change l (no_right (any_of (same key x) l) (no_twice (same key) l) e))
    where
      go : (b : Bool) → is x ≡ b → any_of (same key x) l ≡ false → no_twice (same key) l ≡ true → no_twice (same key) (change is g y l) ≡ true →
          no_twice (same key) (pick b (g x ∷ l) (x ∷ change is g y l)) ≡ true
      go true q a n r =
          let e : key x ≡ key (g x) = eqb-true _ _ q ∙ sym (kg x) in
          let f : any_of (same key (g x)) l ≡ false = subst (λ (m : ℕ). any_of (λ z. eqb m (key z)) l ≡ false) e a in
          rw (f, n)
      go false q a n r = rw (any-change x l (eqb-false _ _ q) a, r)
