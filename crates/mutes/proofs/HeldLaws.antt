-- Which targets are silenced. Assumes nothing.
use Rattle.std.specs.Prelude.{◌≡◌, refl, Bool, true, false, List, [], ◌∷◌, ℕ, eqb, Float, None, Option, Some}
use Rattle.base.specs.Choice.{pick}
use Rattle.base.specs.Keyed.{find, any_of}
use Rattle.session.specs.Session.{SilencedLevel, targets_of, same_target, is_target, is_silenced, level_for, level_before}

abbrev held : Option Float → Bool
held (Some x) = true
held None = false

is_held : (target : ℕ) (s : List SilencedLevel) → is_silenced target (targets_of s) ≡ held (level_before target s)
unfolding is_silenced level_before find any_of
is_held target [] = refl
is_held target (e ∷ s) = go (eqb e.target target) (is_held target s)
  where
    go : (b : Bool) → any_of (same_target target) (targets_of s) ≡ held (level_for (find (is_target target) s)) →
        pick b true (any_of (same_target target) (targets_of s)) ≡ held (level_for (pick b (Some e) (find (is_target target) s)))
    go true h = refl
    go false h = h

-- a target is silenced exactly if its level is kept
pub held_some : (target : ℕ) (s : List SilencedLevel) (x : Float) → Some x ≡ level_before target s → is_silenced target (targets_of s) ≡ true
held_some target s x e = rw (is_held target s, ← e)

pub held_none : (target : ℕ) (s : List SilencedLevel) → None ≡ level_before target s → is_silenced target (targets_of s) ≡ false
held_none target s e = rw (is_held target s, ← e)
