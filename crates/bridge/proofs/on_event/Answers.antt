use mathlib.Core.Path.{◌≡◌, refl, sym, ap, subst, ◌∙◌}
use mathlib.Core.Bool.{true}
use lib.IntN.{ℤ}
use mir.Syntax.{w32}
use mir.ValLaws.{to_z-of_z}
use Rattle.std.proofs.Common.{Some}
use Rattle.base.proofs.RangeLaws.{or_left_no}
use Rattle.definition.specs.Faders.{in_range}
use Rattle.bridge.specs.Bridge.{ran, Turns}
use native.Mathlib.Omega.{arith}
use Rattle.bridge.proofs.HandLaws.{small_fits, range_small}
use Rattle.bridge.proofs.StepLaws.{does_nothing, nothing-done, low_move, low_turn, others_run, moves_so, turns_so}
use Rattle.bridge.proofs.on_event.Goals as goal

pub returns-then-is_nothing-is_tick : goal.returns-then-is_nothing-is_tick
returns-then-is_nothing-is_tick c =
    let p = c.args.profile.now in
    let s = c.args.session.now in
    rw c.silent.ensures
    (does_nothing _ p s _ _ _ refl c.requires.session_value
    (nothing-done p s c.args.e c.args.answers.now _ _ _ c.is_nothing.ensures c.is_tick.ensures c.is_idle.ensures c.if-is_nothing-is_tick.true))

pub on_fader-requires : goal.on_fader-requires
on_fader-requires c =
    let h = c.in-Some-Fader in
    record { profile_value = c.requires.profile_value; session_value = c.requires.session_value; in_bounds = c.requires.in_bounds; in_bounds_2 = c.requires.in_bounds_2; channel_bound = rw h.channel-is (low_move c.args.e h.channel h.value c.requires.low_input (sym c.hand_of.ensures ∙ h.is ∙ ap Some h.field-0-is)) }

pub on_encoder-requires : goal.on_encoder-requires
on_encoder-requires c =
    let h = c.in-Some-Encoder in
    let low = low_turn c.args.e h.channel h.delta c.requires.low_input (sym c.hand_of.ensures ∙ h.is ∙ ap Some h.field-0-is) in
    record { profile_value = c.requires.profile_value; session_value = c.requires.session_value; channel_bound = rw h.channel-is low.0; delta_value = rw h.delta-is (subst (λ (z : ℤ). in_range z ≡ true) (sym (to_z-of_z w32 h.delta (small_fits h.delta (omega (arith, range_small h.delta low.1))))) low.1) }

pub on_other-requires : goal.on_other-requires
on_other-requires c =
    record { profile_value = c.requires.profile_value; session_value = c.requires.session_value; in_bounds = c.requires.in_bounds; in_bounds_2 = c.requires.in_bounds_2; what_value = others_run c.args.e.what (sym c.hand_of.ensures ∙ c.in-None.is) (sym c.is_nothing.ensures ∙ or_left_no _ _ c.if-is_nothing-is_tick.false) }

pub returns-in-Some-Fader : goal.returns-in-Some-Fader
returns-in-Some-Fader c =
    let h = c.in-Some-Fader in
    moves_so c.args.profile.now c.args.session.now c.args.e h.channel h.value (sym c.hand_of.ensures ∙ h.is ∙ ap Some h.field-0-is) _ _ _ _ _ _
    (rw (h.channel-is, h.value-is) at c.on_fader.ensures)

pub returns-in-Some-Encoder : goal.returns-in-Some-Encoder
returns-in-Some-Encoder c =
    let h = c.in-Some-Encoder in
    let low = low_turn c.args.e h.channel h.delta c.requires.low_input (sym c.hand_of.ensures ∙ h.is ∙ ap Some h.field-0-is) in
    turns_so c.args.profile.now c.args.session.now c.args.e h.channel h.delta (sym c.hand_of.ensures ∙ h.is ∙ ap Some h.field-0-is) _ _ _ _
    (subst (λ (z : ℤ). Turns c.args.profile.now c.args.session.now h.channel z (ran c.on_encoder.result c.on_encoder.new.session))
    (to_z-of_z w32 h.delta (small_fits h.delta (omega (arith, range_small h.delta low.1)))) (rw (h.channel-is, h.delta-is) at c.on_encoder.ensures))
