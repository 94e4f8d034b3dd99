-- A list that is kept as the first n of an array of numbers, each standing for something: how a search among them counts up. Assumes nothing.
use Rattle.std.specs.Prelude.{ℕ, zero, suc, ◌+◌, ◌≤◌, ◌<◌, ◌≡◌, refl, Bool, true, false, List, [], ◌∷◌, ◌++◌, map, length, get_or, take, set, None, Some}
use Rattle.std.proofs.Common.{sym, ap, ◌∙◌, subst, add-one, arith, take-suc-set, get_or-take}
use Rattle.std.proofs.lemmas.List.{map-append, length-map}
use Rattle.std.proofs.Math.ListN.{get_or-map}
use Rattle.base.specs.Keyed.{at, find, change}
use Rattle.base.proofs.KeyedLaws as laws

map-take : {A B : Type 0} (g : A → B) (n : ℕ) (l : List A) → map g (take n l) ≡ take n (map g l)
map-take g zero l = refl
map-take g (suc n) [] = refl
map-take {B = B} g (suc n) (x ∷ l) = ap (λ (r : List B). g x ∷ r) (map-take g n l)

module _ {A : Type 0} (g : ℕ → A) (f : A → Bool) (xs : List ℕ) where
  -- ── a search that counts up: none of the first k passes ──
  pub none_yet : at f (map g (take 0 xs)) ≡ 0
  none_yet = rw (map-take g 0 xs) (laws.at_none f (g 0) (map g xs))

  pub one_more : (k : ℕ) → k < length xs → at f (map g (take k xs)) ≡ k → f (g (get_or xs k 0)) ≡ false → at f (map g (take (k + 1) xs)) ≡ k + 1
  one_more k h e q =
      rw (add-one, map-take g (suc k) xs)
      (laws.at_more f (g 0) (map g xs) k (rw (length-map xs g) h) (sym (ap (at f) (map-take g k xs)) ∙ e) (ap f (get_or-map g xs k 0) ∙ q))

  pub match : (k n : ℕ) → k < n → n ≤ length xs → at f (map g (take k xs)) ≡ k → f (g (get_or xs k 0)) ≡ true → k ≡ at f (map g (take n xs))
  match k n h l e q =
      sym
      (ap (at f) (map-take g n xs) ∙
      laws.at-hit f (g 0) (map g xs) k n h (rw (length-map xs g) l) (sym (ap (at f) (map-take g k xs)) ∙ e) (ap f (get_or-map g xs k 0) ∙ q))

  pub no_match : (k n : ℕ) → k ≤ n → n ≤ k → at f (map g (take k xs)) ≡ k → k ≡ at f (map g (take n xs))
  no_match k n h l e = let q : k ≡ n = omega arith in subst (λ (m : ℕ). k ≡ at f (map g (take m xs))) q (sym e)

  -- ── where the search among the first n ended at k ──
  module _ (n k : ℕ) (e : k ≡ at f (map g (take n xs))) (l : n ≤ length xs) where
    seen : k ≡ at f (take n (map g xs))
    seen = e ∙ ap (at f) (map-take g n xs)

    long : n ≤ length (map g xs)
    long = rw (length-map xs g) l

    pub within : k ≤ n
    within = laws.found_le f (g 0) (map g xs) n k seen long

    pub found : k < n → find f (map g (take n xs)) ≡ Some (g (get_or xs k 0))
    found h = ap (find f) (map-take g n xs) ∙ laws.found f (g 0) (map g xs) n k seen long h ∙ ap Some (get_or-map g xs k 0)

    pub not_found : n ≤ k → find f (map g (take n xs)) ≡ None
    not_found h = ap (find f) (map-take g n xs) ∙ laws.not_found f (g 0) (map g xs) n k seen long h

    -- one more comes behind
    pub behind : (x : ℕ) → n < length xs → n ≤ k → map g (take (k + 1) (set xs k x)) ≡ map g (take n xs) ++ (g x ∷ [])
    behind x r h = let q : k ≡ n = omega (arith, within) in rw (add-one, take-suc-set xs k x (omega arith), map-append, q)

    -- what is there is replaced, and else it comes behind
    pub put_in : (x : ℕ) → k < n → map g (take n (set xs k x)) ≡ change f (λ y. g x) (g x) (map g (take n xs))
    put_in x h =
        map-take g n (set xs k x) ∙ ap (take n) (laws.map-set g xs k x) ∙ laws.change_in f (g 0) (map g xs) n k seen (λ y. g x) (g x) long h ∙ sym (ap (change f (λ y. g x) (g x)) (map-take g n xs))

    pub put_out : (x : ℕ) → n < length xs → n ≤ k → map g (take (n + 1) (set xs k x)) ≡ change f (λ y. g x) (g x) (map g (take n xs))
    put_out x r h =
        let q : k ≡ n = omega (arith, within) in
        map-take g (n + 1) (set xs k x) ∙
        ap (take (n + 1)) (laws.map-set g xs k x ∙ ap (λ (m : ℕ). set (map g xs) m (g x)) q) ∙
        laws.change_out f (g 0) (map g xs) n k seen (λ y. g x) (g x) (rw (length-map xs g) r) h ∙
        sym (ap (change f (λ y. g x) (g x)) (map-take g n xs))

-- the k-th of those that are seen
pub kth : {A : Type 0} (g : ℕ → A) (xs : List ℕ) (n k : ℕ) → k < n → get_or (map g (take n xs)) k (g 0) ≡ g (get_or xs k 0)
kth g xs n k h = get_or-map g (take n xs) k 0 ∙ ap g (get_or-take n xs k 0 h)
