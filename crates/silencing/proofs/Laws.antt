-- What counting the targets that a press adds rests on. Assumes nothing.
use Rattle.std.proofs.Common.{None, Option, ℕ, ◌+◌, ◌<◌, ◌≡◌, refl, sym, ap, ◌∙◌, Bool, true, false, true≢false, List, [], ◌∷◌, ◌++◌, add-one, eqb, length, get_or, take, set}
use Rattle.std.proofs.Math.Seq.{take-suc-set}
use Rattle.base.specs.Choice.{pick}
use Rattle.base.specs.Keyed.{any_of, change}
use Rattle.lookup.specs.declared.Destination.{Destination}
use Rattle.definition.specs.Muting.{adding, solo_adds}
use Rattle.solos.specs.Peers.{seen_peers}
use Rattle.solos.proofs.PeersLaws.{numbered}

-- ── one target ──

module _ {A : Type 0} (f : A → Bool) (y : A) where
  -- it is there already: the list stays
  pub change_same : (xs : List A) → any_of f xs ≡ true → change f (λ x. x) y xs ≡ xs
  unfolding any_of change
  change_same [] e = absurd (true≢false (sym e))
  change_same (x ∷ xs) e = go (f x) e (change_same xs)
    where
      go : (b : Bool) → pick b true (any_of f xs) ≡ true → (any_of f xs ≡ true → change f (λ z. z) y xs ≡ xs) →
          pick b (x ∷ xs) (x ∷ change f (λ z. z) y xs) ≡ x ∷ xs
      go true q ih = refl
      go false q ih = ap (λ l. x ∷ l) (ih q)

  -- it is not: it comes behind the others
  change_behind : (xs : List A) → any_of f xs ≡ false → change f (λ x. x) y xs ≡ xs ++ (y ∷ [])
  unfolding any_of change
  change_behind [] e = refl
  change_behind (x ∷ xs) e = go (f x) e (change_behind xs)
    where
      go : (b : Bool) → pick b true (any_of f xs) ≡ false → (any_of f xs ≡ false → change f (λ z. z) y xs ≡ xs ++ (y ∷ [])) →
          pick b (x ∷ xs) (x ∷ change f (λ z. z) y xs) ≡ (x ∷ xs) ++ (y ∷ [])
      go true q ih = absurd (true≢false q)
      go false q ih = ap (λ l. x ∷ l) (ih q)

  pub change_new : (xs : List A) (n : ℕ) → n < length xs → any_of f (take n xs) ≡ false → take (n + 1) (set xs n y) ≡ change f (λ x. x) y (take n xs)
  change_new xs n h e = rw (add-one, take-suc-set) (sym (change_behind (take n xs) e))

-- ── the peers of a fader ──

module _ (p : List (Option Destination)) (fader : ℕ) (ts : List ℕ) where
  pub none_adds : solo_adds (seen_peers p) fader ts 0 ≡ []
  unfolding solo_adds
  none_adds = refl

  pub more_adds : (n : ℕ) → solo_adds (seen_peers p) fader ts (n + 1) ≡ adding (pick (eqb (n + 1) fader) None (get_or p n None)) ts (solo_adds (seen_peers p) fader ts n)
  unfolding solo_adds
  more_adds n =
      ap (solo_adds (seen_peers p) fader ts) (add-one n)
      ∙ ap (λ x. adding (pick (eqb (n + 1) fader) None x) ts (solo_adds (seen_peers p) fader ts n)) (numbered p n)
