-- Which targets are silenced, and room for one more. Assumes nothing.
use Rattle.std.specs.Prelude.{◌≡◌, Bool, true, false, List, ℕ, Float, None, Option, Some}
use Rattle.std.proofs.Common.{sym, subst, ◌∙◌}
use Rattle.base.specs.Choice.{pick}
use Rattle.lookup.specs.declared.Destination.{Destination}
use Rattle.session.specs.Session.{SilencedLevel, targets_of, is_silenced, level_before, has_room}
use Rattle.definition.specs.Levels.{kept_by, has_mute}
use Rattle.mutes.specs.Held.{room_for, room_at}
use Rattle.mutes.proofs.HeldLaws.{held_some, held_none}

-- ── the silenced ──

-- a target is silenced exactly if its level is kept
pub is_silenced_lem : (target : ℕ) (s : List SilencedLevel) (l : Option Float) (x : Float) → l ≡ level_before target s → l ≡ Some x → is_silenced target (targets_of s) ≡ true
is_silenced_lem target s l x e h = held_some target s x (sym h ∙ e)

pub not_silenced : (target : ℕ) (s : List SilencedLevel) (l : Option Float) → l ≡ level_before target s → l ≡ None → is_silenced target (targets_of s) ≡ false
not_silenced target s l e h = held_none target s (sym h ∙ e)

-- ── room ──

-- b is whether the destination has a mute, and f what the fader is wired to, as the code has them
pub room_for_lem : (d : Destination) (l : List ℕ) (b : Bool) → b ≡ has_mute d → b ≡ false → room_for d l ≡ true → has_room (kept_by d) l ≡ true
room_for_lem d l b e h r = subst (λ x. pick x true (has_room (kept_by d) l) ≡ true) (sym e ∙ h) r

pub room_at_lem : (f g : Option Destination) (d : Destination) (l : List ℕ) → f ≡ g → f ≡ Some d → room_at g l ≡ true → room_for d l ≡ true
room_at_lem f g d l e h r = subst (λ x. room_at x l ≡ true) (sym e ∙ h) r
