-- The events that ask or send, from what their calls promise. Assumes nothing.
use Prim.Native.Nat.{ℕ}
use mathlib.Core.Path.{◌≡◌, refl, sym, ap, ◌∙◌}
use mathlib.Core.Bool.{Bool, true, false, true≢false}
use mathlib.Core.List.{List, []}
use lib.ListN.{get_or}
use lib.Ieee.{Float}
use Rattle.std.proofs.Common.{None, Option, Some}
use Rattle.protocol.specs.declared.Event.TheVariants as event
use Rattle.protocol.specs.declared.Button.{Button}
use Rattle.lookup.specs.Lookup.{merged, transports_of}
use Rattle.lookup.specs.View.{View, view_of}
use Rattle.drivers.specs.Talk.{Talk, Got, got, next}
use Rattle.session.specs.Session.{SilencedLevel, targets_of, seen_strips}
use Rattle.session.specs.declared.Strip.{Strip}
use Rattle.session.specs.declared.Strips.{Strips}
use Rattle.session.specs.declared.Lamps.{Lamps}
use Rattle.session.specs.declared.Moves.{Moves}
use Rattle.event.specs.declared.Input.{Input}
use Rattle.event.specs.declared.Input.TheVariants as input
use Rattle.definition.specs.Rig.{Rig, with_strips}
use Rattle.definition.specs.Lamps.{push_state, push_bound, push_transport}
use Rattle.definition.specs.Flash.{flash_bank, tick_flash}
use Rattle.definition.specs.Live.{Refreshed, refresh_due}
use Rattle.definition.specs.Buttons.{button}
use Rattle.definition.specs.Step.{Kept, rig_at, rig_now, act, after_press, same, with_lamps, after_tick, flash_tick}
use Rattle.rig.specs.Seen.{here_in, rig_in}
use Rattle.rig.specs.declared.current.Current.{Current}
use Rattle.surface.specs.declared.panel.Panel.{Panel}
use Rattle.live.specs.Again.{seen_again}
use Rattle.after.specs.After.{left_of}
use Rattle.after.specs.declared.Left as declared
use Rattle.bridge.specs.Presses.{Presses}
use Rattle.bridge.specs.Which.{press_in, press_if}
use Rattle.bridge.specs.Acts.{pressing, Runs, Ticks, RunsPanel, RunsAny, tick_behind, behind}
use Rattle.bridge.specs.declared.buttons.Pressed as buttons

-- ── a press ──

abbrev pub after-button : buttons.Pressed → declared.Left
after-button x = record { bank = x.bank; strips = None; moved = x.moved; saved = x.saved }

no_press : (b : Button) → ◌≡◌ {A = Option Button} None (Some b) → ⊥
no_press b q = let z : ◌≡◌ {A = Bool} true false = cc in true≢false z

module _ (here there : Current) (l l₁ : Lamps) (s s₁ : List SilencedLevel) (m : Moves) (now : Float) (t u : Talk) where
  pub presses : (note : ℕ) (x : buttons.Pressed) → Presses (button note) here there l s m now t x l₁ s₁ u →
      Runs (pressing note) here there l s m now t (after-button x) l₁ s₁ u
  unfolding left_of next
  presses note x f k g =
      let v : View = view_of here.profile.now in
      ap (λ z. next z (λ y. got (after_press k y)))
      (f (rig_at v k) (sym (ap (rig_at v k) g.bank) ∙ g.rig) g.rig_there
      ∙ rw (g.rig, g.lamps, g.silenced, g.moves))

  -- the event is that button's
  module _ (due : Bool) (x : declared.Left) (b : Button) where
    pressed : (c : Button) (w : Bool) → c.pressed ≡ w → press_if w c ≡ Some b → Runs (pressing b.note) here there l s m now t x l₁ s₁ u →
        RunsAny (input.Midi (event.Button c)) here there l s m due now t x l₁ s₁ u
    unfolding behind left_of
    pressed c true e q f k g d = rw (e, some q) (f k g)
      where
        some : Some c ≡ Some b → c ≡ b
        some i = cc
    pressed c false e q f k g d = absurd (no_press b q)

    pub runs_press : (w : Input) → press_in w ≡ Some b → Runs (pressing b.note) here there l s m now t x l₁ s₁ u → RunsAny w here there l s m due now t x l₁ s₁ u
    runs_press (input.Midi (event.Button c)) q f = pressed c c.pressed refl q f
    runs_press (input.Midi (event.Fader ch value)) q f = absurd (no_press b q)
    runs_press (input.Midi (event.Encoder ch delta)) q f = absurd (no_press b q)
    runs_press (input.Midi event.Other) q f = absurd (no_press b q)
    runs_press input.Tick q f = absurd (no_press b q)
    runs_press input.PushState q f = absurd (no_press b q)
    runs_press input.PushTransport q f = absurd (no_press b q)
    runs_press input.FlashBank q f = absurd (no_press b q)

-- ── in the current bank ──

abbrev pub still_as : Current → Option Strips → declared.Left
still_as here strips = record { bank = here.bank; strips = strips; moved = false; saved = false }

-- the session as it was, but for the lamps' state
as_it_was : (k : Kept) (here : Current) (s : List SilencedLevel) (due : Bool) (now : Float) (l : Lamps) → k.site.bank ≡ here.bank → k.silenced ≡ s →
    left_of k false due now (still_as here None) l s ≡ with_lamps k l
unfolding left_of
as_it_was k here s due now l e f = rw (← e, ← f)

module _ (here : Current) (a : Panel) (due : Bool) (t u : Talk) (what : Input) where
  module _ (x : declared.Left) (still : x ≡ still_as here None) where
    pub pushes_state : what ≡ input.PushState → u ≡ push_state (rig_in here) a.lamps a.silenced_targets.now t → RunsPanel what here a a due t x u
    unfolding behind act
    pushes_state w f k s e g d =
        rw (w, still) (ap (λ z. got z u) (as_it_was k here s due a.time a.lamps g.bank g.silenced ∙ ap (with_lamps k) (sym g.lamps))
        ∙ ap (got (same k)) (f ∙ rw (g.rig, g.lamps, ap targets_of g.silenced ∙ e)))

    pub pushes_transport : what ≡ input.PushTransport → u ≡ push_bound (merged (transports_of here.profile.now 255) (transports_of here.profile.now here.bank)) [] t →
        RunsPanel what here a a due t x u
    unfolding behind act push_transport
    pushes_transport w f k s e g d =
        rw (w, still) (ap (λ z. got z u) (as_it_was k here s due a.time a.lamps g.bank g.silenced ∙ ap (with_lamps k) (sym g.lamps))
        ∙ ap (got (same k)) (f ∙ ap (λ r. push_transport r t) (sym g.rig)))

    pub flashes : (b : Panel) → what ≡ input.FlashBank → got b.lamps u ≡ flash_bank (rig_in here) a.silenced_targets.now a.moves.now a.time a.lamps t →
        RunsPanel what here a b due t x u
    unfolding behind act next
    flashes b w f k s e g d =
        rw (w, still) (ap (λ z. got z u) (as_it_was k here s due a.time b.lamps g.bank g.silenced)
        ∙ ap (λ z. next z (λ y. got (with_lamps k y))) (f ∙ rw (g.rig, g.lamps, ap targets_of g.silenced ∙ e, g.moves)))

  pub ticks_panel : (b : Panel) (x : declared.Left) → what ≡ input.Tick → Ticks here a b due t x u → RunsPanel what here a b due t x u
  unfolding behind
  ticks_panel b x w f k s e g d = rw w (f k s e g d)

-- ── a tick ──

-- where the list is not due, it did not change
unchanged : (before : List Strip) (x : Option Strips) (known : Option (List Strip)) (r : Rig) (l : Lamps) (ts : List ℕ) (t u : Talk) →
    got (seen_again before x) u ≡ refresh_due false known r l ts t → x ≡ None
unchanged before None known r l ts t u e = refl
unchanged before (Some s) known r l ts t u e =
    let z : ◌≡◌ {A = Bool} true false = ap (λ (g : Got Refreshed). g.value.changed) e in absurd (true≢false z)

-- what is left, by whether the list was due
ticked : (k : Kept) (here : Current) (s : List SilencedLevel) (due : Bool) (now : Float) (x : Option Strips) (l : Lamps) → k.site.bank ≡ here.bank → k.silenced ≡ s →
    (due ≡ false → x ≡ None) → left_of k true due now (still_as here x) l s ≡ after_tick due k now (seen_again (here_in here).strips x) l
unfolding left_of
ticked k here s true now None l e f w = rw (← e, ← f)
ticked k here s true now (Some y) l e f w = rw (← e, ← f)
ticked k here s false now x l e f w = rw (w refl, ← e, ← f)

module _ (here : Current) (a b : Panel) (due : Bool) (t : Talk) where
  -- x is the bank's list where that is another one, q the rig with it, u the line after it, and w the line after the flash
  pub ticks : (x : Option Strips) (q : Rig) (u w : Talk) →
      got (seen_again (here_in here).strips x) u ≡ refresh_due due (seen_strips here.strips.now) (rig_in here) a.lamps a.silenced_targets.now t →
      with_strips (seen_again (here_in here).strips x).strips (rig_in here) ≡ q →
      got b.lamps w ≡ tick_flash q a.silenced_targets.now a.moves.now a.time a.lamps u → Ticks here a b due t (still_as here x) w
  unfolding tick_behind next
  ticks x q u w f r h k s e g d =
      let v : View = view_of here.profile.now in
      let again : Refreshed = seen_again (here_in here).strips x in
      ap (λ z. got z w) (ticked k here s due a.time x b.lamps g.bank g.silenced not-due)
      ∙ ap (λ z. next z (λ y. got (after_tick due k a.time again y)))
      (h ∙ rw (ap (with_strips again.strips) g.rig ∙ r, g.lamps, targets, g.moves))
      ∙ ap (λ z. next z (λ y. flash_tick due v k a.time y)) (f ∙ listed _ _ _ _ _ _ _ _ g.strips g.rig g.lamps targets)
      ∙ ap
      (λ z. next (refresh_due z (get_or k.site.lives k.site.bank None) (rig_now v k) k.lamps (targets_of k.silenced) t) (λ y. flash_tick z v k a.time y))
      (sym d)
    where
      targets : targets_of k.silenced ≡ a.silenced_targets.now
      targets = ap targets_of g.silenced ∙ e

      not-due : due ≡ false → x ≡ None
      not-due q =
          unchanged (here_in here).strips x (seen_strips here.strips.now) (rig_in here) a.lamps a.silenced_targets.now t u
          (f ∙ ap (λ z. refresh_due z (seen_strips here.strips.now) (rig_in here) a.lamps a.silenced_targets.now t) q)

      listed : (o o₁ : Option (List Strip)) (r r₁ : Rig) (x x₁ : Lamps) (s s₁ : List ℕ) → o₁ ≡ o → r₁ ≡ r → x₁ ≡ x → s₁ ≡ s →
          refresh_due due o r x s t ≡ refresh_due due o₁ r₁ x₁ s₁ t
      listed o o₁ r r₁ x x₁ s s₁ a b c d = rw (a, b, c, d)
